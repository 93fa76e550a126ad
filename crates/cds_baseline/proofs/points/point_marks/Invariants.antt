use Rattle.std.proofs.Common.{◌≡◌, ◌∷◌, ◌++◌, drop, true}
use Rattle.cds_baseline.specs.Cluster.{marks}
use Rattle.cds_baseline.proofs.points.point_marks.Given as goal

abbrev pub invariant-loop-i : goal.invariant-loop-i
invariant-loop-i l = l.fixed.items ++ marks (drop l.i l.inner) (drop l.i l.covered) ≡ true ∷ marks l.inner l.covered
