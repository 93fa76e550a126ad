use Rattle.std.proofs.Common.{◌∙◌, ◌+◌, sym, ap, length}
use Rattle.cds_book.proofs.AfterLaws.{method_of-next, method_of-others}
use Rattle.cds_book.proofs.tables.Tables.method_frozen.Goals as goal

-- another version than the next one
pub returns-then-version-texts : goal.returns-then-version-texts
returns-then-version-texts c = c.method.ensures ∙ sym (method_of-others _ _ _ c.args.version (λ next. c.if-version-texts.true (next ∙ ap (λ texts. length texts + 1) (sym c.texts.ensures))))

-- the next one
pub returns : goal.returns
returns c = c.draft.ensures ∙ sym (method_of-next _ _ _ c.args.version (c.if-version-texts.false ∙ ap (λ texts. length texts + 1) c.texts.ensures))
