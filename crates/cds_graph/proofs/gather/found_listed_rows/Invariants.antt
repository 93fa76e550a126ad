use Rattle.std.proofs.Common.{◌≡◌, map, take}
use Rattle.cds_sign.specs.declared.inputs.ListedRow.{ListedRow}
use Rattle.cds_graph.specs.Building.{after}
use Rattle.cds_graph.specs.Found.{standard_found}
use Rattle.cds_graph.specs.Held.{standard_shown}
use Rattle.cds_graph.specs.Recorded.{fields_in, standard_in}
use Rattle.cds_graph.proofs.gather.found_listed_rows.Given as goal

abbrev pub invariant-loop-place : goal.invariant-loop-place
invariant-loop-place l =
    map standard_shown l.found.items ≡ map (λ (row : ListedRow). standard_found
    (fields_in (after l.source) l.listed.method l.listed.version) (standard_in (after l.source) row)) (take l.place
    l.rows)
