use Rattle.std.proofs.Common.{◌≡◌, map, take}
use Rattle.cds_sign.specs.declared.inputs.Listed.{Listed}
use Rattle.cds_graph.specs.Building.{after}
use Rattle.cds_graph.specs.Found.{listed_found}
use Rattle.cds_graph.specs.Held.{listed_shown}
use Rattle.cds_graph.specs.Recorded.{listed_in}
use Rattle.cds_graph.proofs.gather.found_standards.Given as goal

abbrev pub invariant-loop-place : goal.invariant-loop-place
invariant-loop-place l =
    map listed_shown l.found.items
    ≡ map (λ (listed : Listed). listed_found (listed_in (after l.source) listed)) (take l.place l.standards)
