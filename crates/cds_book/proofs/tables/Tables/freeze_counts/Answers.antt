use Rattle.cds_book.proofs.HeldLaws.{freeze_counts-held}
use Rattle.cds_book.proofs.tables.Tables.freeze_counts.Goals as goal

pub returns : goal.returns
returns c = freeze_counts-held c.self.inside _ c.args.name c.args.version c.texts-texts.result.now c.self.invariant c.self.view_is c.requires c.texts-texts.ensures
