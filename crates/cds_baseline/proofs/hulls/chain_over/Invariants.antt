use Rattle.std.proofs.Common.{vec_len}
use Rattle.cds_baseline.specs.Nodes.{sample_of, is_fixed}
use Rattle.cds_baseline.specs.Chain.{level_of}
use Rattle.cds_baseline.proofs.HullLaws.{IsChainOver}
use Rattle.cds_baseline.proofs.hulls.chain_over.Given as goal

abbrev pub invariant-loop-next : goal.invariant-loop-next
invariant-loop-next l = IsChainOver (sample_of l.points) (level_of l.levels) (is_fixed l.fixed) l.chain.items (vec_len l.chain) l.next
