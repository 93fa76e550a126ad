use Rattle.cds_book.proofs.LookLaws.{rising_methods}
use Rattle.cds_book.proofs.tables.Tables.reserve_draft.Goals as goal

-- the names rise
pub reserve-requires : goal.reserve-requires
reserve-requires c = rising_methods c.self.inside c.self.invariant
