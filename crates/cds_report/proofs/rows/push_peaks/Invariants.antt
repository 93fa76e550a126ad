use Rattle.std.proofs.Common.{◌≡◌, ◌++◌, ◌+◌, drop}
use Rattle.cds_integrate.specs.Seen.{peak_seen}
use Rattle.cds_report.specs.Lines.{each_numbered}
use Rattle.cds_report.specs.RowText.{peak_line}
use Rattle.cds_report.proofs.rows.push_peaks.Given as goal

abbrev pub invariant-loop-index : goal.invariant-loop-index
invariant-loop-index l =
    l.lines
    ++ each_numbered (λ number peak. peak_line l.components l.period number (peak_seen peak)) (l.index + 1)
    (drop l.index l.peaks)
    ≡ l.fn.lines ++ each_numbered (λ number peak. peak_line l.components l.period number (peak_seen peak)) 1 l.peaks
