use Rattle.std.proofs.Common.{◌≡◌, map, take}
use Rattle.std.specs.List.{filter_map}
use Rattle.cds_graph.specs.Building.{after}
use Rattle.cds_graph.specs.HeldGraph.{noise_key_shown}
use Rattle.cds_graph.specs.Keys.{noise_key_of}
use Rattle.cds_graph.proofs.noises.noise_keys.Given as goal

abbrev pub invariant-loop-place : goal.invariant-loop-place
invariant-loop-place l =
    map noise_key_shown l.keys.items ≡ filter_map (noise_key_of (after l.source)) (take l.place l.all)
