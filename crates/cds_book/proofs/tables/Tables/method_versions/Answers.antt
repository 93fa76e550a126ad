use Rattle.std.proofs.Common.{◌∙◌, sym, ap, Some, arith}
use Rattle.cds_book.proofs.LookLaws.{rising_methods, method_named-none, method_named-some, method_versions_of-found, IsMethodEntry-found}
use Rattle.cds_book.proofs.tables.Tables.method_versions.Goals as goal

-- the method isn't there
pub returns-in_default-clause-value : goal.returns-in_default-clause-value
returns-in_default-clause-value c = sym (method_versions_of-found _ _ _ (method_named-none c.self.inside _ c.self.view_is _ c.in_default.ensures))

-- a method has at most 1,000 versions
pub overflow_cast-result : goal.overflow_cast-result
overflow_cast-result c =
    let found = method_named-some c.self.inside _ c.self.view_is _ c.in-Some.texts.now c.in-Some.ensures in
    let kept = IsMethodEntry-found c.self.inside _ c.self.view_is _ c.self.invariant _ found.1 in
    omega (arith, kept.few, c.in-Some.texts.now.versions.ok.0, c.len.ensures)

-- its versions are those that were found
pub returns-clause-value : goal.returns-clause-value
returns-clause-value c =
    let found = method_named-some c.self.inside _ c.self.view_is _ c.in-Some.texts.now c.in-Some.ensures in
    ap Some (c.len.ensures ∙ c.in-Some.texts.now.versions.ok.0) ∙ sym (method_versions_of-found _ _ _ found.1)

-- and the number of them is kept below the limit
pub returns-clause-few : goal.returns-clause-few
returns-clause-few c =
    let found = method_named-some c.self.inside _ c.self.view_is _ c.in-Some.texts.now c.in-Some.ensures in
    let kept = IsMethodEntry-found c.self.inside _ c.self.view_is _ c.self.invariant _ found.1 in
    omega (arith, kept.few, c.in-Some.texts.now.versions.ok.0, c.len.ensures)

-- the names rise
pub find-requires : goal.find-requires
find-requires c = rising_methods c.self.inside c.self.invariant
