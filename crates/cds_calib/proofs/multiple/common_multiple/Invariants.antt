use Rattle.std.proofs.Common.{◌<◌, ◌^◌, take}
use Rattle.cds_calib.proofs.LeastMultiple.{IsLeast}
use Rattle.cds_calib.proofs.multiple.common_multiple.Given as goal

abbrev pub invariant-loop-point : goal.invariant-loop-point
invariant-loop-point l = IsLeast l.multiple (take l.point-index l.points) × (l.multiple < 2 ^ 60)
