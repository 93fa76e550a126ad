use Rattle.cds_book.proofs.HeldLaws.{draft_counts-held}
use Rattle.cds_book.proofs.tables.Tables.draft_counts.Goals as goal

pub returns : goal.returns
returns c = draft_counts-held c.self.inside _ _ c.args.text.now c.draft.result c.is_none-is_new.result _ _ c.self.invariant c.self.view_is c.len.ensures c.draft.ensures c.is_none-is_new.ensures c.from.ensures
