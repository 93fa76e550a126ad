use Rattle.cds_book.proofs.ListLaws.{map_seen}
use Rattle.cds_book.specs.Tables.{NamedSequence}
use Rattle.cds_book.proofs.tables.Tables.rises_over.Goals as goal

pub loop-place-preserved : goal.loop-place-preserved
loop-place-preserved c = rw c.in_ok-push.ensures.items (map_seen (λ (e : NamedSequence). e.name) _ _ c.loop-place.place _ _ _ c.name_at.ensures (rw c.sequence_count-place-end.ensures at c.loop-place-test.true) c.in_ok-differs.ensures c.loop-place.invariant)
