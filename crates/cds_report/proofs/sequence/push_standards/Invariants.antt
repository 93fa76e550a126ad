use Rattle.std.proofs.Common.{◌≡◌, ◌++◌, ◌+◌, drop}
use Rattle.cds_report.specs.Lines.{each_numbered}
use Rattle.cds_report.specs.SequenceText.{standard_text}
use Rattle.cds_report.proofs.sequence.push_standards.Given as goal

abbrev pub invariant-loop-index : goal.invariant-loop-index
invariant-loop-index l =
    l.lines ++ each_numbered standard_text (l.index + 1) (drop l.index l.rows)
    ≡ l.fn.lines ++ each_numbered standard_text 1 l.rows
