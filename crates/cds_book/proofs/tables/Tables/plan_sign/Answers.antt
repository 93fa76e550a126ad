use Rattle.cds_book.proofs.SequenceLaws.{sequence-signed}
use Rattle.cds_book.proofs.tables.Tables.plan_sign.Goals as goal

pub plan_new-requires-clause-there : goal.plan_new-requires-clause-there
plan_new-requires-clause-there c = sequence-signed _ _ _ _ _ _ _ c.in_ok-judged.ensures
