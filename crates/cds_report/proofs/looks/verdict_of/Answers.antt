use Rattle.std.proofs.Common.{◌∙◌, ap, sym}
use Rattle.std.specs.Prelude.{unwrap_or}
use Rattle.cds_suit.specs.declared.verdict.Verdict.TheVariants.{Pass}
use Rattle.cds_report.proofs.LookLaws.{verdict-kept}
use Rattle.cds_report.proofs.looks.verdict_of.Goals as goal

pub returns : goal.returns
returns c =
    c.unwrap_or.ensures
    ∙ ap (λ o. unwrap_or o Pass) c.verdict.ensures
    ∙ sym (verdict-kept c.args.graph.now c.args.name)
