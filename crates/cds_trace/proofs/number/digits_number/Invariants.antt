use Rattle.std.proofs.Common.{◌≡◌, ◌+◌, ◌≤◌, ◌^◌, drop}
use Rattle.cds_trace.proofs.NumberLaws.{digits_after}
use Rattle.cds_trace.proofs.number.digits_number.Given as goal

abbrev pub invariant-loop-byte : goal.invariant-loop-byte
invariant-loop-byte l = record {
  value : digits_after l.value (drop l.byte-index l.bytes) ≡ digits_after 0 l.bytes;
  size : l.value + 1 ≤ 10 ^ l.byte-index;
}
