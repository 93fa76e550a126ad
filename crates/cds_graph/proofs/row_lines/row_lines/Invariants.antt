use Rattle.std.proofs.Common.{◌≡◌, map, take}
use Rattle.std.specs.List.{filter_map}
use Rattle.cds_graph.specs.Checks.{row_line}
use Rattle.cds_graph.specs.Held.{found_shown, row_shown}
use Rattle.cds_graph.specs.Rows.{with_numbers}
use Rattle.cds_graph.proofs.row_lines.row_lines.Given as goal

abbrev pub invariant-loop-place : goal.invariant-loop-place
invariant-loop-place l =
    l.lines
    ≡ filter_map (row_line (found_shown l.found) l.check) (take l.place (with_numbers (map row_shown l.rows)))
