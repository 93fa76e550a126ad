use Rattle.std.proofs.Common.{◌∙◌, sym}
use Rattle.cds_book.proofs.AfterLaws.{differs-name, method_of-kept, method_of-left}
use Rattle.cds_book.proofs.tables.Tables.method_after.Goals as goal

-- another method is frozen
pub returns-then-ne : goal.returns-then-ne
returns-then-ne c = rw c.in-Freeze.is (c.method.ensures ∙ sym (method_of-left _ _ _ _ (differs-name _ _ (sym c.ne.ensures ∙ c.if-ne.true))))

-- none is frozen
pub returns-in_default : goal.returns-in_default
returns-in_default c = c.method-in_default.ensures ∙ sym (method_of-kept _ _ _ _ c.in_default.not-Freeze)
