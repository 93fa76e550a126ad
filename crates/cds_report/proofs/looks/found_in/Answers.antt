use Rattle.std.proofs.Common.{◌∙◌, ℕ, Option, subst}
use Rattle.std.specs.Prelude.{All, IfSome}
use Rattle.cds_graph.specs.Figures.{CrossesBefore}
use Rattle.cds_graph.specs.Looks.{row_at, period_at}
use Rattle.cds_integrate.specs.Row.{peaks_in}
use Rattle.cds_report.specs.Shown.{no_results}
use Rattle.cds_report.proofs.LookLaws.{looked, none-numbered}
use Rattle.cds_report.proofs.looks.found_in.Goals as goal

pub returns-clause-value : goal.returns-clause-value
unfolding no_results
returns-clause-value c =
    c.row.ensures.value
    ∙ looked c.args.graph.now c.args.name (λ results. row_at results c.args.n) (none-numbered c.args.n)

pub returns-clause-crosses : goal.returns-clause-crosses
unfolding no_results
returns-clause-crosses c =
    subst (λ (period : Option ℕ). IfSome c.row.result (λ part. IfSome period
    (λ p. All (CrossesBefore p) (peaks_in part.now))))
    (looked c.args.graph.now c.args.name (λ results. period_at results c.args.n) (none-numbered c.args.n))
    c.row.ensures.crosses
