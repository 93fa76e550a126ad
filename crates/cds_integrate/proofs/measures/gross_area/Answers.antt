use Rattle.std.proofs.Common.{◌-◌, ap, arith, rules}
use Rattle.std.specs.Prelude.{unsigned_abs}
use Rattle.std.proofs.lemmas.Int.{to_z-of_z, ints}
use mir.Syntax.{w128}
use mir.Val.{SFits}
use Rattle.cds_integrate.specs.Shapes.{Shape}
use Rattle.cds_trace.specs.declared.trace.TheConstants.{GREATEST_SAMPLE}
use Rattle.cds_integrate.proofs.AreaLaws.{sample-size}
use Rattle.cds_integrate.proofs.NumberLaws.{area-fits}
use Rattle.cds_integrate.proofs.measures.gross_area.Goals as goal

pub returns-clause-small : goal.returns-clause-small
returns-clause-small g c =
    let trace = c.len-samples.ensures.trace in
    let shape = c.requires.shape in
    let fits : SFits w128 c.area.result.num = search rules in
    let most = c.area.ensures.bounded (unsigned_abs GREATEST_SAMPLE) (omega (arith, ints))
    (rw (ap (λ (s : Shape). s.line) c.shape.view_is) (sample-size c.args.shape.line.from_y shape.levels.0))
    (rw (ap (λ (s : Shape). s.line) c.shape.view_is) (sample-size c.args.shape.line.to_y shape.levels.1)) in
    rw (to_z-of_z w128 c.area.result.num fits)
    (area-fits (unsigned_abs c.area.result.num) (c.area_end-end.result - c.shape.inside.start) c.area.result.den most
    (omega (arith, trace.few, c.area_end-end.ensures, c.requires.reaches, shape.within))
    (omega (arith, trace.few, c.area.ensures.divisor, shape.within)))
