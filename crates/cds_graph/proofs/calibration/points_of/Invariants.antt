use Rattle.std.proofs.Common.{◌≡◌, map, take}
use Rattle.cds_graph.specs.Held.{listed_shown}
use Rattle.cds_graph.specs.Points.{points_from}
use Rattle.cds_graph.proofs.calibration.points_of.Given as goal

abbrev pub invariant-loop-listed : goal.invariant-loop-listed
invariant-loop-listed l = l.points ≡ points_from (map listed_shown (take l.listed-index l.standards)) l.name
