use Rattle.std.proofs.Common.{length}
use Rattle.cds_baseline.specs.Nodes.{sample_of, is_fixed}
use Rattle.cds_baseline.specs.Chain.{level_of, vertex}
use Rattle.cds_baseline.proofs.HullLaws.{IsKeeping}
use Rattle.cds_baseline.proofs.hulls.kept.Given as goal

abbrev pub invariant-loop-count : goal.invariant-loop-count
invariant-loop-count l = IsKeeping (sample_of l.points) (level_of l.levels) (is_fixed l.fixed) (vertex l.chain) (length l.chain) l.count l.next

abbrev pub decreases-loop-count : goal.decreases-loop-count
decreases-loop-count l = l.count
