use Rattle.std.proofs.Common.{◌≡◌, ◌^◌, ◌≤◌, arith}
use Rattle.cds_calib.specs.Fit.{common_multiple}
use Rattle.cds_calib.proofs.LeastMultiple.{IsLeast-nil, IsLeast-more, multiple_past, common_multiple_all}
use Rattle.cds_calib.proofs.multiple.common_multiple.Goals as goal

pub loop-point-init : goal.loop-point-init
loop-point-init c = (IsLeast-nil, omega arith)

pub loop-point-preserved : goal.loop-point-preserved
loop-point-preserved c =
    (IsLeast-more c.loop-point.multiple _ c.from.result c.loop-point.point-index c.args.points.now _ c.loop-point.invariant.0 c.loop-point-test.true c.requires c.from.ensures c.in-Some.ensures.least, c.in-Some.ensures.below)

pub returns-in_default : goal.returns-in_default
returns-in_default c below =
    let past : 2 ^ 60 ≤ common_multiple c.args.points.now = multiple_past c.loop-point.multiple c.from.result c.loop-point.point-index (2 ^ 60) c.args.points.now _ c.loop-point.invariant.0 c.loop-point-test.true c.requires c.from.ensures c.in_default.ensures.too_large in
    omega arith

pub returns : goal.returns
returns c =
    let same : c.loop-point.multiple ≡ common_multiple c.args.points.now = common_multiple_all c.loop-point.multiple c.loop-point.point-index c.args.points.now c.requires c.loop-point.invariant.0 c.loop-point-test.false in
    let below = c.loop-point.invariant.1 in
    (omega arith, same)
