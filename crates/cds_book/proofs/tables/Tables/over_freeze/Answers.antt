use Rattle.std.proofs.Common.{◌∙◌, sym}
use Rattle.cds_book.proofs.BindingLaws.{bindings-freeze, bindings-no_freeze}
use Rattle.cds_book.proofs.tables.Tables.over_freeze.Goals as goal

pub returns-then-has_draft : goal.returns-then-has_draft
returns-then-has_draft c = bindings-freeze _ _ _ (sym c.if-has_draft.true ∙ c.has_draft.ensures)

pub returns-else-has_draft : goal.returns-else-has_draft
returns-else-has_draft c = bindings-no_freeze _ _ _ (sym c.if-has_draft.false ∙ c.has_draft.ensures)
