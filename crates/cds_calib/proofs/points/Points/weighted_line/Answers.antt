use Rattle.std.proofs.Common.{◌∙◌, FitsSigned, rules}
use Rattle.std.specs.Int.{w128}
use Rattle.std.proofs.lemmas.Int.{to_z-of_z}
use Rattle.cds_calib.proofs.LineLaws.{Parts-from_calls, divisor_le, IsFit-inverse}
use Rattle.cds_calib.proofs.points.Points.weighted_line.Goals as goal

pub overflow_sub-result : goal.overflow_sub-result
overflow_sub-result c =
    divisor_le c.args.self.now c.args.multiple _ _ _ c.weighted_sums-weighted.result.wy _ c.sums-sums.result.y
    (Parts-from_calls c.args.self.now c.as_slice.result.now c.args.multiple _ _ _ _ c.sums-sums.result c.sums-sums.ensures.shape c.requires.multiple c.count-n.ensures.count c.from-multiple.ensures c.as_slice.ensures.items c.weighted_sums-weighted.ensures.w c.weighted_sums-weighted.ensures.wy c.sums-sums.ensures.sums)

pub invariant_of-result : goal.invariant_of-result
invariant_of-result c =
    let fits : FitsSigned w128 c.difference.result = search rules in
    IsFit-inverse c.args.self.now c.args.multiple c.count-n.result c.from-multiple.result c.weighted_sums-weighted.result.w c.weighted_sums-weighted.result.wy c.sums-sums.result.x c.sums-sums.result.y c.saturating_sub-slope.result c.in-Some.high _
    (Parts-from_calls c.args.self.now c.as_slice.result.now c.args.multiple _ _ _ _ c.sums-sums.result c.sums-sums.ensures.shape c.requires.multiple c.count-n.ensures.count c.from-multiple.ensures c.as_slice.ensures.items c.weighted_sums-weighted.ensures.w c.weighted_sums-weighted.ensures.wy c.sums-sums.ensures.sums)
    c.requires.two c.requires.below c.count-n.ensures.few c.weighted_sums-weighted.ensures.w_bound c.sums-sums.ensures.small.x c.sums-sums.ensures.small.y
    c.saturating_sub-slope.ensures c.if-slope-eq0.false (search rules) (to_z-of_z w128 c.difference.result fits ∙ c.difference.ensures)
