use Rattle.std.proofs.Common.{◌≡◌, ◌∙◌, sym, subst}
use Rattle.std.specs.Prelude.{IfOk}
use Rattle.cds_desk.specs.Step.{signed_at}
use Rattle.cds_desk.specs.declared.judged.Judged.{Judged}
use Rattle.cds_desk.proofs.SignLaws.{without_text}
use Rattle.cds_desk.proofs.signing.judge_first.Goals as goal

pub returns-clause-value : goal.returns-clause-value
returns-clause-value c =
    let state = c.args.state.now.held in
    let asked = c.args.asked.now in
    subst (λ (same : Judged). IfOk c.decide.result (λ j. j ≡ same))
    (without_text c.args.sequence asked.number asked.basis 0 asked.name asked.meaning c.from_vec.result
    (signed_at state c.args.sequence asked 0) state (sym c.in_ok-is_new.ensures ∙ c.if-branch.false))
    (rw c.in_ok-without_text.ensures at c.decide.ensures.value)
