use Rattle.std.proofs.Common.{◌≡◌, true, ⊎_elim, inl, inr}
use Rattle.std.proofs.lemmas.List.Elements.{All-push}
use Rattle.std.proofs.lemmas.Result.{err_from_is_err_and}
use Rattle.cds_base.specs.EventRange.{is_event}
use Rattle.cds_fields.proofs.Judging.{judged_err, judged_more, judged_all}
use Rattle.cds_fields.proofs.event.events.Goals as goal

pub returns-in_err-event-clause-value : goal.returns-in_err-event-clause-value
returns-in_err-event-clause-value g c =
    let within = rw c.len-place-end.ensures at c.loop-place-test.true in
    let p = err_from_is_err_and c.from_residual-in_err-event.result c.from_residual-in_err-event.ensures.1 in
    rw (p.1, p.2) (⊎_elim (λ h. inl (judged_err _ _ _ _ _ _ c.loop-place.invariant.judged within c.in_ok-entry.ensures.value h)) inr c.in_err-event.ensures.value)

pub loop-place-preserved : goal.loop-place-preserved
loop-place-preserved g c =
    let within = rw c.len-place-end.ensures at c.loop-place-test.true in
    rw c.in-Ok.ensures.items (record {
      judged = judged_more _ _ _ _ _ _ c.loop-place.invariant.judged within c.in_ok-entry.ensures.value c.in_ok-event.ensures.value;
      each = All-push (λ e. is_event e ≡ true) _ _ c.loop-place.invariant.each c.in_ok-event.ensures.ranges;
    })

pub returns-clause-value : goal.returns-clause-value
returns-clause-value g c =
    let past = rw c.len-place-end.ensures at c.loop-place-test.false in
    rw c.from_vec.ensures (judged_all _ _ _ _ c.loop-place.invariant.judged past)
