use Rattle.std.proofs.Common.{◌≡◌, take}
use Rattle.cds_calib.specs.Fit.{sum_w, sum_wy}
use Rattle.cds_calib.proofs.multiple.weighted_sums.Given as goal

abbrev pub invariant-loop-point : goal.invariant-loop-point
invariant-loop-point l = (l.sums.w ≡ sum_w l.multiple (take l.point-index l.points)) × (l.sums.wy ≡ sum_wy l.multiple (take l.point-index l.points))
