use Rattle.std.proofs.Common.{◌∙◌, sym, ap, Some}
use Rattle.cds_book.proofs.LookLaws.{rising_methods, method_named-none, method_named-some, method_of-found}
use Rattle.cds_book.specs.Tables.{numbered}
use Rattle.cds_book.proofs.tables.Tables.method.Goals as goal

-- the method isn't there
pub returns-in_default : goal.returns-in_default
returns-in_default c = sym (method_of-found _ _ _ (method_named-none c.self.inside _ c.self.view_is _ c.in_default.ensures) c.args.version)

-- the version isn't there
pub returns-in_default-numbered : goal.returns-in_default-numbered
returns-in_default-numbered c =
    let found = method_named-some c.self.inside _ c.self.view_is _ c.in-Some.texts.now c.in-Some.ensures in
    c.in_default-numbered.ensures ∙ ap (λ versions. numbered versions c.args.version) c.deref.ensures.value ∙ sym (method_of-found _ _ _ found.1 c.args.version)

-- its versions are those that were found
pub returns : goal.returns
returns c =
    let found = method_named-some c.self.inside _ c.self.view_is _ c.in-Some.texts.now c.in-Some.ensures in
    ap Some c.as_slice.ensures ∙ c.in-Some-numbered.ensures ∙ ap (λ versions. numbered versions c.args.version) c.deref.ensures.value ∙ sym (method_of-found _ _ _ found.1 c.args.version)

-- the names rise
pub find-requires : goal.find-requires
find-requires c = rising_methods c.self.inside c.self.invariant
