use Rattle.std.proofs.Common.{◌∙◌, ◌∷◌, true, sym}
use Rattle.cds_baseline.specs.Cluster.{marks}
use Rattle.cds_baseline.proofs.PointLaws.{marks-valley, marks-other}
use Rattle.cds_baseline.proofs.points.point_marks.Goals as goal
use Rattle.cds_baseline.proofs.points.point_marks.Goals.{then-is_valley+in_ok-push-2, else-is_valley}

pub loop-i-preserved : goal.loop-i-preserved
loop-i-preserved c =
    elim c.if-is_valley.branch [
      | then-is_valley+in_ok-push-2 w ↦
          rw (w.fixed-is, w.in_ok-push-2.ensures.items)
          (marks-valley c.args.inner.now c.args.covered.now c.loop-i.fixed.items (true ∷ marks c.args.inner.now c.args.covered.now) c.loop-i.i _ _ c.loop-i-test.true c.requires
          (sym c.is_valley.ensures ∙ w.if-is_valley.true) c.loop-i.invariant)
      | else-is_valley w ↦
          rw w.fixed-is
          (marks-other c.args.inner.now c.args.covered.now c.loop-i.fixed.items (true ∷ marks c.args.inner.now c.args.covered.now) c.loop-i.i _ c.loop-i-test.true c.requires
          (sym c.is_valley.ensures ∙ w.if-is_valley.false) c.loop-i.invariant)
    ]
