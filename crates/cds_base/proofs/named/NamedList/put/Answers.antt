use Rattle.std.proofs.Common.{◌∙◌, sym, subst, map}
use Rattle.cds_base.specs.Named.{AreRising, IsPlaceOf}
use Rattle.cds_base.specs.declared.named.Named.{Named}
use Rattle.cds_base.proofs.NamedLaws.{placed-stands, placed-gap, AreRising-placed}
use Rattle.cds_base.proofs.named.NamedList.put.Goals as goal

-- the entry of the name is replaced
pub returns-in-At-clause-value : goal.returns-in-At-clause-value
returns-in-At-clause-value g c =
    let name = λ (e : Named g.row.V.Denot). e.name in
    let stands = subst (IsPlaceOf name c.args.self.now.entries.items c.args.name) c.in-At.is c.requires.place in
    sym (placed-stands name _ (record { name = c.args.name; value = c.args.value }) c.in-At.at stands)

pub returns-in-At-clause-rising : goal.returns-in-At-clause-rising
returns-in-At-clause-rising g c rising =
    let name = λ (e : Named g.row.V.Denot). e.name in
    subst (λ es. AreRising (map name es)) (sym (returns-in-At-clause-value g c)) (AreRising-placed name _ (record { name = c.args.name; value = c.args.value }) rising)

-- an entry goes to its gap
pub returns-in-Ok-clause-value : goal.returns-in-Ok-clause-value
returns-in-Ok-clause-value g c =
    let name = λ (e : Named g.row.V.Denot). e.name in
    let gap = subst (IsPlaceOf name c.args.self.now.entries.items c.args.name) c.in-Gap.is c.requires.place in
    c.in-Ok.ensures.items ∙ sym (placed-gap name _ (record { name = c.args.name; value = c.args.value }) c.in-Gap.at gap)

pub returns-in-Ok-clause-rising : goal.returns-in-Ok-clause-rising
returns-in-Ok-clause-rising g c rising =
    let name = λ (e : Named g.row.V.Denot). e.name in
    subst (λ es. AreRising (map name es)) (sym (returns-in-Ok-clause-value g c)) (AreRising-placed name _ (record { name = c.args.name; value = c.args.value }) rising)
