use Rattle.std.proofs.Common.{◌≡◌, take}
use Rattle.cds_graph.specs.Building.{after}
use Rattle.cds_graph.specs.Keys.{all_inputs}
use Rattle.cds_graph.proofs.build.all_inputs.Given as goal

abbrev pub invariant-loop-place : goal.invariant-loop-place
invariant-loop-place l =
    l.all.items ≡ take l.place (all_inputs (after l.source))
