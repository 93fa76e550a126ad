use Rattle.std.proofs.Common.{◌≡◌, map, take}
use Rattle.cds_baseline.specs.Nodes.{sample_of}
use Rattle.cds_baseline.proofs.baselines.samples_of.Given as goal

abbrev pub invariant-loop-i : goal.invariant-loop-i
invariant-loop-i l = l.samples.items ≡ map (sample_of l.points) (take l.i-index l.chain)
