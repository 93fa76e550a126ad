use Rattle.std.proofs.Common.{◌∙◌, sym}
use Rattle.cds_book.proofs.ListLaws.{filter_map_some, filter_map_none}
use Rattle.cds_book.proofs.tables.Tables.rows_listed.Goals as goal
use Rattle.cds_book.proofs.tables.Tables.rows_listed.Goals.{in-Some+in_ok-push, in_default}

pub loop-place-preserved : goal.loop-place-preserved
loop-place-preserved c = elim c.match-branch-2.branch [
  | in-Some+in_ok-push w ↦ rw (w.listed-is, w.in_ok-push.ensures.items) (filter_map_some _ _ c.loop-place.place c.index-rows-place.result _ _ c.loop-place-test.true c.index-rows-place.is (sym w.in-Some.is ∙ c.in_ok-row.ensures) c.loop-place.invariant)
  | in_default w ↦ rw w.listed-is (filter_map_none _ _ c.loop-place.place c.index-rows-place.result _ c.loop-place-test.true c.index-rows-place.is (sym w.in_default.is ∙ c.in_ok-row.ensures) c.loop-place.invariant)
]
