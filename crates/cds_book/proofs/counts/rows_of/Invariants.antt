use Rattle.std.proofs.Common.{◌≡◌, length, take}
use Rattle.std.specs.List.{sum_by}
use Rattle.cds_book.specs.Held.{HeldSequence}
use Rattle.cds_book.proofs.counts.rows_of.Given as goal

abbrev pub invariant-loop-place : goal.invariant-loop-place
invariant-loop-place l = l.sum ≡ sum_by (λ (e : HeldSequence). length e.value.sequence.rows) (take l.place l.entries)
