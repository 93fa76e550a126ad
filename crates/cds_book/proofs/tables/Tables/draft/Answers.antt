use Rattle.std.proofs.Common.{◌∙◌, sym, ap, Some}
use Rattle.cds_book.proofs.LookLaws.{rising_methods, method_named-none, method_named-some, draft_of-found}
use Rattle.cds_book.proofs.tables.Tables.draft.Goals as goal

-- the method isn't there
pub returns-in_default : goal.returns-in_default
returns-in_default c = sym (draft_of-found _ _ _ (method_named-none c.self.inside _ c.self.view_is _ c.in_default.ensures))

-- its draft is the one that was found
pub returns : goal.returns
returns c =
    let found = method_named-some c.self.inside _ c.self.view_is _ c.in-Some.texts.now c.in-Some.ensures in
    ap Some c.as_slice.ensures ∙ sym (draft_of-found _ _ _ found.1)

-- the names rise
pub find-requires : goal.find-requires
find-requires c = rising_methods c.self.inside c.self.invariant
