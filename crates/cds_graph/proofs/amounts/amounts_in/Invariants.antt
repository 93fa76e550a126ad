use Rattle.std.proofs.Common.{◌≡◌, map, take}
use Rattle.cds_graph.specs.Amounts.{amount_in}
use Rattle.cds_graph.specs.Held.{row_shown}
use Rattle.cds_graph.specs.Rows.{with_numbers}
use Rattle.cds_graph.proofs.amounts.amounts_in.Given as goal

abbrev pub invariant-loop-place : goal.invariant-loop-place
invariant-loop-place l =
    l.items.items ≡ map (amount_in (row_shown l.row)) (take l.place (with_numbers l.calibrations))
