use Rattle.std.proofs.Common.{⊎_elim, inl, inr}
use Rattle.std.proofs.lemmas.List.Elements.{All-nil, All-push}
use Rattle.std.proofs.lemmas.Result.{err_from_is_err_and}
use Rattle.cds_base.specs.NameText.{IsName}
use Rattle.cds_fields.proofs.Judging.{judged_none, judged_err, judged_more, judged_all}
use Rattle.cds_wire.specs.Stated.{standards_of}
use Rattle.cds_wire.proofs.NameLaws.{none_different, one_more_different}
use Rattle.cds_wire.proofs.sequence.standards.Goals as goal

pub returns-in_err-standard-clause-value : goal.returns-in_err-standard-clause-value
unfolding standards_of
returns-in_err-standard-clause-value c =
    let within = rw c.len-place-end.ensures at c.loop-place-test.true in
    let p = err_from_is_err_and c.from_residual-in_err-standard.result c.from_residual-in_err-standard.ensures.1 in
    let refused = rw c.as_slice.ensures.value at c.in_err-standard.ensures.value in
    rw (p.1, p.2, c.in_ok-entries.ensures.value)
    (⊎_elim (λ h. inl (judged_err _ _ _ _ _ _ c.loop-place.invariant.judged within c.in_ok-entry.ensures.value h)) inr
    refused)

pub loop-place-init : goal.loop-place-init
loop-place-init c = rw c.new-standards.ensures.items (record {
  judged = judged_none _ _;
  each = All-nil IsName;
  different = none_different;
})

pub loop-place-preserved : goal.loop-place-preserved
loop-place-preserved c =
    let within = rw c.len-place-end.ensures at c.loop-place-test.true in
    let taken = rw c.as_slice.ensures.value at c.in_ok-standard.ensures.value in
    let other = rw c.as_slice.ensures.value at c.in_ok-standard.ensures.other in
    rw c.in_ok-push.ensures.items (record {
      judged = judged_more _ _ _ _ _ _ c.loop-place.invariant.judged within c.in_ok-entry.ensures.value taken;
      each = All-push IsName _ _ c.loop-place.invariant.each c.in_ok-standard.ensures.name;
      different = one_more_different _ _ c.loop-place.invariant.different other;
    })

pub returns-clause-value : goal.returns-clause-value
unfolding standards_of
returns-clause-value c =
    let past = rw c.len-place-end.ensures at c.loop-place-test.false in
    rw (c.in_ok-entries.ensures.value, c.from_vec.ensures) (judged_all _ _ _ _ c.loop-place.invariant.judged past)
