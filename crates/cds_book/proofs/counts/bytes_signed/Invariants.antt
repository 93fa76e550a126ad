use Rattle.std.proofs.Common.{◌≡◌, length, take}
use Rattle.std.specs.List.{sum_by}
use Rattle.cds_sign.specs.declared.signed.Signed.{Signed}
use Rattle.cds_book.proofs.counts.bytes_signed.Given as goal

abbrev pub invariant-loop-place : goal.invariant-loop-place
invariant-loop-place l = l.sum ≡ sum_by (λ (s : Signed). length s.text) (take l.place l.signed)
