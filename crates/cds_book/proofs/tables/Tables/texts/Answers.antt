use Rattle.std.proofs.Common.{◌∙◌, sym}
use Rattle.cds_book.proofs.LookLaws.{rising_methods, method_named-none, method_named-some, texts_of-found}
use Rattle.cds_book.proofs.tables.Tables.texts.Goals as goal

-- the method isn't there
pub returns-in_default : goal.returns-in_default
returns-in_default c = sym (texts_of-found _ _ _ (method_named-none c.self.inside _ c.self.view_is _ c.in_default.ensures))

-- its versions are those that were found
pub returns : goal.returns
returns c =
    let found = method_named-some c.self.inside _ c.self.view_is _ c.in-Some.texts.now c.in-Some.ensures in
    c.deref.ensures.value ∙ sym (texts_of-found _ _ _ found.1)

-- the names rise
pub find-requires : goal.find-requires
find-requires c = rising_methods c.self.inside c.self.invariant
