use Rattle.std.proofs.Common.{◌≡◌, ◌++◌, drop, flat_map}
use Rattle.cds_report.specs.SequenceText.{listed_text}
use Rattle.cds_report.specs.Shown.{listed_kept}
use Rattle.cds_report.proofs.sequence.push_all_listed.Given as goal

abbrev pub invariant-loop-name : goal.invariant-loop-name
invariant-loop-name l =
    l.lines ++ flat_map listed_text (listed_kept l.graph (drop l.name-index l.names))
    ≡ l.fn.lines ++ flat_map listed_text (listed_kept l.graph l.names)
