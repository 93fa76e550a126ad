use Rattle.std.proofs.Common.{◌∙◌, sym}
use Rattle.cds_book.proofs.BindingLaws.{bindings-made, bindings-unmade}
use Rattle.cds_book.proofs.tables.Tables.over_made.Goals as goal

pub returns-in_default : goal.returns-in_default
returns-in_default c = bindings-unmade _ _ _ (sym c.in_default.is ∙ c.in_ok-made.ensures)

pub returns : goal.returns
returns c = bindings-made _ _ _ _ (sym c.in-Some.is ∙ c.in_ok-made.ensures)
