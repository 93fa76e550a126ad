use Rattle.std.proofs.Common.{◌≡◌, ◌+◌, false, sym, ◌∙◌, ap}
use Rattle.cds_names.specs.Naming.{number_of}
use Rattle.cds_figures.proofs.PassingLaws.{first-skip}
use Rattle.cds_integrate.specs.Peaks.{gives}
use Rattle.cds_integrate.proofs.naming.component_of.Goals as goal

pub loop-component-preserved : goal.loop-component-preserved
loop-component-preserved c =
    let fails : gives c.args.number (number_of c.args.names.now c.loop-component.component) ≡ false =
    ap (gives c.args.number) (sym c.of.ensures) ∙ (sym c.gives.ensures ∙ c.if-gives.false) in
    sym (first-skip (λ component. gives c.args.number (number_of c.args.names.now component))
    c.loop-component.component (c.args.count + 1) c.loop-component-test.true fails) ∙ c.loop-component.invariant
