use Rattle.std.proofs.Common.{◌≡◌, ◌++◌, ◌+◌, drop}
use Rattle.cds_graph.specs.Looks.{amount_at}
use Rattle.cds_report.specs.Lines.{each_numbered, if_there}
use Rattle.cds_report.specs.RowText.{amount_line}
use Rattle.cds_report.specs.Shown.{kept_results}
use Rattle.cds_report.proofs.rows.push_amounts.Given as goal

abbrev pub invariant-loop-index : goal.invariant-loop-index
invariant-loop-index l =
    l.lines
    ++ each_numbered (λ number component. if_there (amount_line component)
    (amount_at (kept_results l.report.graph.now l.report.name) l.n number)) (l.index + 1)
    (drop l.index l.report.method.now.components)
    ≡ l.fn.lines
    ++ each_numbered (λ number component. if_there (amount_line component)
    (amount_at (kept_results l.report.graph.now l.report.name) l.n number)) 1 l.report.method.now.components
