use Rattle.std.proofs.Common.{FitsSigned, rules, ◌∙◌}
use Rattle.std.proofs.lemmas.Int.{to_z-of_z}
use Rattle.std.specs.Int.{w128}
use Rattle.cds_calib.proofs.LineLaws.{equal-few, equal-flat, equal-line, IsFit-equal}
use Rattle.cds_calib.proofs.points.Points.equal_line.Goals as goal

pub returns-then-divisor-eq0 : goal.returns-then-divisor-eq0
returns-then-divisor-eq0 c = equal-few c.args.self.now c.corrected_xx-divisor.result c.corrected_xx-divisor.ensures.value c.if-divisor-eq0.true

pub returns-then-slope-eq0 : goal.returns-then-slope-eq0
returns-then-slope-eq0 c = equal-flat c.args.self.now _ _ c.corrected_xx-divisor.ensures.value c.if-divisor-eq0.false c.corrected_xy-slope.ensures.value c.if-slope-eq0.true

pub invariant_of-result : goal.invariant_of-result
invariant_of-result c =
    let fits : FitsSigned w128 c.difference.result = search rules in
    IsFit-equal _ _ _ c.sums-sums.result c.corrected_xx-divisor.ensures.bound c.if-divisor-eq0.false c.corrected_xy-slope.ensures.bound c.if-slope-eq0.false c.sums-sums.ensures.small (to_z-of_z w128 c.difference.result fits ∙ c.difference.ensures)

pub returns : goal.returns
returns c =
    let fits : FitsSigned w128 c.difference.result = search rules in
    equal-line c.args.self.now _ _ _ c.sums-sums.result c.corrected_xx-divisor.ensures.value c.if-divisor-eq0.false c.corrected_xy-slope.ensures.value c.if-slope-eq0.false c.sums-sums.ensures.sums (to_z-of_z w128 c.difference.result fits ∙ c.difference.ensures)
