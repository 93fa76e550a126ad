use Rattle.cds_graph.specs.Points.{points_from}
use Rattle.cds_graph.proofs.PointLaws.{points-more}
use Rattle.cds_graph.proofs.calibration.points_of.Goals as goal

pub loop-listed-init : goal.loop-listed-init
unfolding points_from
loop-listed-init c = c.in_ok-points.ensures

pub loop-listed-preserved : goal.loop-listed-preserved
loop-listed-preserved c =
    points-more c.args.name c.args.standards.now c.loop-listed.listed-index c.listed-item.result _ _
    c.loop-listed-test.true c.listed-item.is c.add_points.ensures c.loop-listed.invariant
