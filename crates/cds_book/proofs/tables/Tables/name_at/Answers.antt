use Rattle.cds_book.proofs.LookLaws.{name_at-held}
use Rattle.cds_book.proofs.tables.Tables.name_at.Goals as goal

pub returns : goal.returns
returns c = name_at-held c.self.inside _ c.self.view_is c.args.place c.index.result.now c.requires.within c.index.ensures
