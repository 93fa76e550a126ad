use Rattle.std.proofs.Common.{sym, ap, ◌∙◌, unwrap_or}
use Rattle.cds_suit.specs.declared.verdict.Verdict.TheVariants.{Pass}
use Rattle.cds_suit.specs.Verdict.{is_undecided}
use Rattle.cds_suit.proofs.Found.{find-here, find-past}
use Rattle.cds_suit.proofs.verdict.first_undecided.Goals as goal

pub returns-then-is_undecided : goal.returns-then-is_undecided
returns-then-is_undecided c =
    sym (ap (λ o. unwrap_or o Pass) (c.loop-verdict.invariant
    ∙ find-here is_undecided c.args.verdicts.now c.loop-verdict.verdict-index Pass c.loop-verdict-test.true (sym c.is_undecided.ensures ∙ c.if-is_undecided.true)))

pub loop-verdict-preserved : goal.loop-verdict-preserved
loop-verdict-preserved c =
    c.loop-verdict.invariant
    ∙ find-past is_undecided c.args.verdicts.now c.loop-verdict.verdict-index Pass c.loop-verdict-test.true (sym c.is_undecided.ensures ∙ c.if-is_undecided.false)
