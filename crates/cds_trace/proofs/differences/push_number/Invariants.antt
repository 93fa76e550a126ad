use Rattle.std.proofs.Common.{◌≡◌, ◌++◌}
use Rattle.cds_trace.specs.SevenBits.{seven_bits}
use Rattle.cds_trace.proofs.differences.push_number.Given as goal

abbrev pub invariant-loop-number : goal.invariant-loop-number
invariant-loop-number l = l.bytes.items ++ seven_bits l.number ≡ l.fn.bytes.items ++ seven_bits l.fn.number

abbrev pub decreases-loop-number : goal.decreases-loop-number
decreases-loop-number l = l.number
