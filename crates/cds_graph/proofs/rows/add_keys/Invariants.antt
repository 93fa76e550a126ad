use Rattle.std.proofs.Common.{◌≡◌, ◌++◌, map, take}
use Rattle.cds_graph.specs.Keys.{row_key}
use Rattle.cds_graph.proofs.rows.add_keys.Given as goal

abbrev pub invariant-loop-place : goal.invariant-loop-place
invariant-loop-place l =
    l.keys.items ≡ l.initial.keys.items ++ map (row_key l.inputs) (take l.place l.rows)
