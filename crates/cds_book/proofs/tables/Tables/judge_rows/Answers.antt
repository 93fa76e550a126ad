use Rattle.std.proofs.Common.{⊎_elim, inl, inr}
use Rattle.std.proofs.lemmas.Result.{err_from_is_err_and}
use Rattle.cds_book.specs.Judged.{rows_judged}
use Rattle.cds_book.proofs.Judging.{judged_err}
use Rattle.cds_book.proofs.tables.Tables.judge_rows.Goals as goal

pub returns-in_err-row : goal.returns-in_err-row
unfolding rows_judged
returns-in_err-row c =
    let p = err_from_is_err_and c.from_residual.result c.from_residual.ensures.1 in
    let refused = rw c.as_slice.ensures.value at c.in_err-row.ensures in
    rw (p.1, p.2, ← c.as_slice-asked.ensures) (record {
      value = ⊎_elim (λ h. inl (judged_err _ _ _ _ c.index-asked-place.result _ c.loop-place.invariant c.loop-place-test.true c.index-asked-place.is h)) inr refused;
      many = tt;
    })
