use Rattle.std.proofs.Common.{◌≡◌, ◌++◌, ◌+◌, drop}
use Rattle.cds_report.specs.Lines.{each_numbered}
use Rattle.cds_report.specs.RowText.{injection_text}
use Rattle.cds_report.specs.Shown.{kept_results}
use Rattle.cds_report.proofs.sequence.push_rows.Given as goal

abbrev pub invariant-loop-index : goal.invariant-loop-index
invariant-loop-index l =
    l.lines
    ++ each_numbered (injection_text l.report.method.now.components
    (kept_results l.report.graph.now l.report.name)) (l.index + 1) (drop l.index l.report.inputs.now.rows)
    ≡ l.fn.lines
    ++ each_numbered (injection_text l.report.method.now.components
    (kept_results l.report.graph.now l.report.name)) 1 l.report.inputs.now.rows
