use Rattle.std.proofs.Common.{⊎_elim, inl, inr, ◌≢◌}
use Rattle.std.proofs.lemmas.List.Elements.{All-push}
use Rattle.std.proofs.lemmas.List.Quantifiers.{all_pairs_push}
use Rattle.std.proofs.lemmas.Result.{err_from_is_err_and}
use Rattle.cds_fields.proofs.Judging.{judged_err, judged_more, judged_all}
use Rattle.cds_rules.specs.declared.component.Component.{Component}
use Rattle.cds_rules.specs.Ranges.{ComponentTimes}
use Rattle.cds_rules.specs.Stated.{components_of}
use Rattle.cds_rules.proofs.read_component.components.Goals as goal

pub returns-in_err-component-clause-value : goal.returns-in_err-component-clause-value
unfolding components_of
returns-in_err-component-clause-value c =
    let within = rw c.len-place-end.ensures at c.loop-place-test.true in
    let p = err_from_is_err_and c.from_residual-in_err-component.result c.from_residual-in_err-component.ensures.1 in
    let refused = rw c.as_slice.ensures.value at c.in_err-component.ensures.value in
    rw (p.1, p.2, c.in_ok-entries.ensures.value) (⊎_elim (λ h. inl (judged_err _ _ _ _ _ _ c.loop-place.invariant.judged within c.in_ok-entry.ensures.value h)) inr refused)

pub loop-place-preserved : goal.loop-place-preserved
loop-place-preserved c =
    let within = rw c.len-place-end.ensures at c.loop-place-test.true in
    let taken = rw c.as_slice.ensures.value at c.in_ok-component.ensures.value in
    let differs = rw c.as_slice.ensures.value at c.in_ok-component.ensures.differs in
    rw c.in_ok-push.ensures.items (record {
      judged = judged_more _ _ _ _ _ _ c.loop-place.invariant.judged within c.in_ok-entry.ensures.value taken;
      times = All-push ComponentTimes _ _ c.loop-place.invariant.times c.in_ok-component.ensures.times;
      different = all_pairs_push (λ (one later : Component). one.name ≢ later.name) _ _ c.loop-place.invariant.different differs;
    })

pub returns-clause-value : goal.returns-clause-value
unfolding components_of
returns-clause-value c =
    let past = rw c.len-place-end.ensures at c.loop-place-test.false in
    rw (c.in_ok-entries.ensures.value, c.from_vec.ensures) (judged_all _ _ _ _ c.loop-place.invariant.judged past)
