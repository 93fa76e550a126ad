use Rattle.std.proofs.Common.{◌≡◌, map, take}
use Rattle.cds_graph.specs.Keys.{method_key}
use Rattle.cds_graph.proofs.methods.method_keys.Given as goal

abbrev pub invariant-loop-place : goal.invariant-loop-place
invariant-loop-place l =
    l.keys.items ≡ map method_key (take l.place l.all)
