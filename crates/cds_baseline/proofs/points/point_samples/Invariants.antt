use Rattle.std.proofs.Common.{◌≡◌, ◌∷◌, ◌++◌, drop}
use Rattle.cds_baseline.specs.Cluster.{valleys}
use Rattle.cds_baseline.proofs.points.point_samples.Given as goal

abbrev pub invariant-loop-part : goal.invariant-loop-part
invariant-loop-part l = l.samples.items ++ valleys (drop l.part-index l.inner) ≡ l.start ∷ valleys l.inner
