use Rattle.std.proofs.Common.{◌≡◌, take}
use Rattle.std.specs.List.{flat_map}
use Rattle.cds_graph.specs.Keys.{row_keys_in}
use Rattle.cds_graph.proofs.rows.row_keys.Given as goal

abbrev pub invariant-loop-place : goal.invariant-loop-place
invariant-loop-place l =
    l.keys.items ≡ flat_map row_keys_in (take l.place l.all)
