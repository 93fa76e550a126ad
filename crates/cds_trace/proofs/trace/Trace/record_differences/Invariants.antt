use Rattle.std.proofs.Common.{◌≡◌, ◌++◌, drop}
use Rattle.cds_trace.specs.Differences.{bytes_behind, bytes_of_differences}
use Rattle.cds_trace.proofs.trace.Trace.record_differences.Given as goal

abbrev pub invariant-loop-i : goal.invariant-loop-i
invariant-loop-i l = l.bytes.items ++ bytes_behind l.before (drop l.i l.samples) ≡ bytes_of_differences l.samples
