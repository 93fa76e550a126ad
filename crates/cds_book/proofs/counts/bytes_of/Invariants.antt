use Rattle.std.proofs.Common.{◌≡◌, length, take}
use Rattle.std.specs.List.{sum_by}
use Rattle.cds_sign.specs.declared.signed.Signed.{Signed}
use Rattle.cds_book.specs.Held.{HeldSequence}
use Rattle.cds_book.proofs.counts.bytes_of.Given as goal

abbrev pub invariant-loop-place : goal.invariant-loop-place
invariant-loop-place l = l.sum ≡ sum_by (λ (e : HeldSequence). sum_by (λ (s : Signed). length s.text) e.value.signed.items) (take l.place l.entries)
