use Rattle.std.proofs.Common.{◌∙◌, ap}
use Rattle.std.specs.Option.{option_and_then}
use Rattle.cds_book.specs.Tables.{numbered}
use Rattle.cds_graph.specs.Looks.{amount_at}
use Rattle.cds_report.specs.Shown.{no_results}
use Rattle.cds_report.proofs.LookLaws.{looked, none-numbered}
use Rattle.cds_report.proofs.looks.amount_in.Goals as goal

pub returns : goal.returns
unfolding no_results
returns c =
    c.amount.ensures ∙ looked c.args.graph.now c.args.name (λ results. amount_at results c.args.n c.args.component) (ap (λ o. option_and_then (λ amounts. numbered amounts c.args.component)
    (option_and_then (λ amounts. amounts) o)) (none-numbered c.args.n))
