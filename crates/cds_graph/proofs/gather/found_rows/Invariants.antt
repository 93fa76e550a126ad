use Rattle.std.proofs.Common.{◌≡◌, map, take}
use Rattle.cds_sign.specs.declared.row.Row.{Row}
use Rattle.cds_graph.specs.Building.{after}
use Rattle.cds_graph.specs.Found.{row_found}
use Rattle.cds_graph.specs.Held.{row_shown}
use Rattle.cds_graph.specs.Recorded.{fields_in, recorded_in}
use Rattle.cds_graph.proofs.gather.found_rows.Given as goal

abbrev pub invariant-loop-place : goal.invariant-loop-place
invariant-loop-place l =
    map row_shown l.found.items ≡ map (λ (row : Row). row_found
    (fields_in (after l.source) l.inputs.method l.inputs.version) (recorded_in (after l.source) row)) (take l.place
    l.rows)
