use Rattle.std.proofs.Common.{◌≡◌, ◌++◌, ◌+◌, drop}
use Rattle.std.specs.String.{string_bytes}
use Rattle.cds_report.specs.PeaksText.{peaks_table, peak_lines}
use Rattle.cds_report.proofs.peaks.peaks_table.Given as goal

abbrev pub invariant-loop-index : goal.invariant-loop-index
invariant-loop-index l = string_bytes l.text ++ peak_lines (l.index + 1) (drop l.index l.peaks) ≡ peaks_table l.peaks
