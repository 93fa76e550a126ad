use Rattle.std.proofs.Common.{◌∙◌}
use Rattle.cds_book.specs.Tables.{numbered}
use Rattle.cds_report.specs.Shown.{no_results}
use Rattle.cds_report.proofs.LookLaws.{looked, none-numbered}
use Rattle.cds_report.proofs.looks.calibration_of.Goals as goal

pub returns : goal.returns
unfolding no_results
returns c =
    c.calibration.ensures ∙ looked c.args.graph.now c.args.name (λ results. numbered results.calibrations c.args.component) (none-numbered c.args.component)
