use Rattle.std.proofs.Common.{◌∙◌}
use Rattle.cds_graph.specs.Looks.{period_at}
use Rattle.cds_report.specs.Shown.{no_results}
use Rattle.cds_report.proofs.LookLaws.{looked, none-numbered}
use Rattle.cds_report.proofs.looks.period_of.Goals as goal

pub returns : goal.returns
unfolding no_results
returns c =
    c.period.ensures ∙ looked c.args.graph.now c.args.name (λ results. period_at results c.args.n) (none-numbered c.args.n)
