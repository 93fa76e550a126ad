use Rattle.std.proofs.Common.{◌≡◌, ◌++◌, take}
use Rattle.std.specs.List.{filter_map}
use Rattle.cds_calib.specs.declared.point.TheConstants.{MOST_POINTS}
use Rattle.cds_rules.specs.Fields.{fields_of}
use Rattle.cds_graph.specs.Held.{standard_shown}
use Rattle.cds_graph.specs.Points.{point_of}
use Rattle.cds_graph.proofs.calibration.add_points.Given as goal

abbrev pub invariant-loop-standard : goal.invariant-loop-standard
invariant-loop-standard l =
    l.points ≡ take MOST_POINTS (l.fn.points
    ++ filter_map (λ standard. point_of l.name (fields_of l.listed.method.value.method) (standard_shown standard))
    (take l.standard-index l.rows))
