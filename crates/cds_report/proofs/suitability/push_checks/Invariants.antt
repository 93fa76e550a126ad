use Rattle.std.proofs.Common.{◌≡◌, ◌++◌, ◌+◌, drop}
use Rattle.cds_report.specs.Lines.{each_numbered}
use Rattle.cds_report.specs.SuitabilityText.{check_text}
use Rattle.cds_report.specs.Shown.{kept_results}
use Rattle.cds_report.proofs.suitability.push_checks.Given as goal

abbrev pub invariant-loop-index : goal.invariant-loop-index
invariant-loop-index l =
    l.lines
    ++ each_numbered (check_text l.report.method.now.components
    (kept_results l.report.graph.now l.report.name)) (l.index + 1) (drop l.index l.report.method.now.checks)
    ≡ l.fn.lines
    ++ each_numbered (check_text l.report.method.now.components
    (kept_results l.report.graph.now l.report.name)) 1 l.report.method.now.checks
