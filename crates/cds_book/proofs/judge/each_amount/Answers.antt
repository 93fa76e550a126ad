use Rattle.std.proofs.Common.{⊎_elim, inl, inr}
use Rattle.std.proofs.lemmas.Result.{err_from_is_err_and}
use Rattle.cds_book.proofs.Judging.{judged_err}
use Rattle.cds_book.proofs.judge.each_amount.Goals as goal

pub returns-in_err-amount : goal.returns-in_err-amount
returns-in_err-amount c =
    let p = err_from_is_err_and c.from_residual.result c.from_residual.ensures.1 in
    rw (p.1, p.2) (⊎_elim (λ h. inl (judged_err _ _ _ _ c.index-asked-place.result _ c.loop-place.invariant c.loop-place-test.true c.index-asked-place.is h)) inr c.in_err-amount.ensures)
