use Rattle.std.proofs.Common.{◌≡◌, ◌+◌, ◌-◌, length, take}
use Rattle.std.specs.List.{suffix_len}
use Rattle.cds_trace.specs.Number.{is_blank}
use Rattle.cds_trace.proofs.number.last_blanks.Given as goal

abbrev pub invariant-loop-i : goal.invariant-loop-i
invariant-loop-i l = l.i + suffix_len is_blank (take (length l.bytes - l.i) l.bytes) ≡ suffix_len is_blank l.bytes
