use Rattle.std.proofs.Common.{◌≡◌, ◌++◌, drop, flat_map}
use Rattle.cds_report.specs.SuitabilityText.{check_line}
use Rattle.cds_report.proofs.suitability.push_lines.Given as goal

abbrev pub invariant-loop-line : goal.invariant-loop-line
invariant-loop-line l =
    l.lines ++ flat_map (check_line l.components l.number l.check) (drop l.line-index l.held)
    ≡ l.fn.lines ++ flat_map (check_line l.components l.number l.check) l.held
