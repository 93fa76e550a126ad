use Rattle.std.proofs.Common.{◌≡◌, map, take}
use Rattle.cds_graph.proofs.source.names_in.Given as goal

abbrev pub invariant-loop-place : goal.invariant-loop-place
invariant-loop-place l =
    l.names.items ≡ map (λ e. e.name) (take l.place l.list.entries.items)
