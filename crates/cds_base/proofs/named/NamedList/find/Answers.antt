use Rattle.std.proofs.Common.{◌∙◌, Some, sym, ap, option_map}
use Rattle.cds_base.specs.declared.named.Named.{Named}
use Rattle.cds_base.proofs.NamedLaws.{named-stands, named-gap}
use Rattle.cds_base.proofs.named.NamedList.find.Goals as goal

-- the entry at the place of the name is that of the name
pub returns-in-At : goal.returns-in-At
returns-in-At g c =
    let name = λ (e : Named g.row.V.Denot). e.name in
    let value = λ (e : Named g.row.V.Denot). e.value in
    sym (ap (option_map value) (named-stands name _ _ _ c.index.result.now c.in-At.ensures
    ∙ ap Some (sym c.index.ensures)))

-- a name that has a gap isn't there
pub returns-in-Gap : goal.returns-in-Gap
returns-in-Gap g c =
    let name = λ (e : Named g.row.V.Denot). e.name in
    let value = λ (e : Named g.row.V.Denot). e.value in
    sym (ap (option_map value) (named-gap name _ _ _ c.in-Gap.ensures))
