use Rattle.std.proofs.Common.{◌≡◌, ◌++◌, ◌+◌, drop}
use Rattle.cds_book.specs.Tables.{numbered}
use Rattle.cds_report.specs.Lines.{each_numbered, if_there}
use Rattle.cds_report.specs.SequenceText.{fit_line}
use Rattle.cds_report.specs.Shown.{kept_results}
use Rattle.cds_report.proofs.sequence.push_fits.Given as goal

abbrev pub invariant-loop-index : goal.invariant-loop-index
invariant-loop-index l =
    l.lines
    ++ each_numbered (λ number component. if_there (fit_line component)
    (numbered (kept_results l.report.graph.now l.report.name).calibrations number)) (l.index + 1)
    (drop l.index l.report.method.now.components)
    ≡ l.fn.lines
    ++ each_numbered (λ number component. if_there (fit_line component)
    (numbered (kept_results l.report.graph.now l.report.name).calibrations number)) 1 l.report.method.now.components
