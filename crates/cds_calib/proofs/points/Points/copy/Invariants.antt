use Rattle.std.proofs.Common.{◌≡◌, ◌≤◌, take, vec_capacity}
use Rattle.cds_calib.proofs.points.Points.copy.Given as goal

abbrev pub invariant-loop-point : goal.invariant-loop-point
invariant-loop-point l = record {
  items : l.items.items ≡ take l.point-index l.self;
  room : 64 ≤ vec_capacity l.items;
}
