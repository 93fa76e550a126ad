use Rattle.std.proofs.Common.{⊎_elim, inl, inr}
use Rattle.std.proofs.lemmas.List.Elements.{All-push}
use Rattle.std.proofs.lemmas.Result.{err_from_is_err_and}
use Rattle.cds_fields.proofs.Judging.{judged_err, judged_more, judged_all}
use Rattle.cds_sign.specs.Ranges.{IsAskedRow}
use Rattle.cds_wire.specs.Stated.{rows_of}
use Rattle.cds_wire.proofs.row.rows.Goals as goal

pub returns-in_err-row-clause-value : goal.returns-in_err-row-clause-value
unfolding rows_of
returns-in_err-row-clause-value c =
    let within = rw c.len-place-end.ensures at c.loop-place-test.true in
    let p = err_from_is_err_and c.from_residual-in_err-row.result c.from_residual-in_err-row.ensures.1 in
    rw (p.1, p.2, c.in_ok-entries.ensures.value)
    (⊎_elim (λ h. inl (judged_err _ _ _ _ _ _ c.loop-place.invariant.judged within c.in_ok-entry.ensures.value h)) inr
    c.in_err-row.ensures.value)

pub loop-place-preserved : goal.loop-place-preserved
loop-place-preserved c =
    let within = rw c.len-place-end.ensures at c.loop-place-test.true in
    rw c.in_ok-push.ensures.items (record {
      judged = judged_more _ _ _ _ _ _ c.loop-place.invariant.judged within c.in_ok-entry.ensures.value
          c.in_ok-row.ensures.value;
      each = All-push IsAskedRow _ _ c.loop-place.invariant.each c.in_ok-row.ensures.ranges;
    })

pub returns-clause-value : goal.returns-clause-value
unfolding rows_of
returns-clause-value c =
    let past = rw c.len-place-end.ensures at c.loop-place-test.false in
    rw (c.in_ok-entries.ensures.value, c.from_vec.ensures) (judged_all _ _ _ _ c.loop-place.invariant.judged past)
