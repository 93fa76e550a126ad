use Rattle.std.proofs.Common.{◌≡◌, map, take}
use Rattle.cds_graph.specs.Amounts.{amounts_in}
use Rattle.cds_graph.specs.Held.{row_shown}
use Rattle.cds_graph.proofs.amounts.amounts_of.Given as goal

abbrev pub invariant-loop-row : goal.invariant-loop-row
invariant-loop-row l =
    l.amounts.items ≡ map (λ row. amounts_in l.calibrations (row_shown row)) (take l.row-index l.rows)
