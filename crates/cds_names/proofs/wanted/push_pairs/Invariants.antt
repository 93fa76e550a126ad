use Rattle.std.proofs.Common.{◌≡◌, ◌++◌, map, take}
use Rattle.cds_names.specs.Wanting.{pair_of}
use Rattle.cds_names.proofs.wanted.push_pairs.Given as goal

abbrev pub invariant-loop-peak : goal.invariant-loop-peak
invariant-loop-peak l = l.pairs.items ≡ l.fn.pairs.items ++ map (pair_of l.window l.component) (take l.peak-index l.near)
