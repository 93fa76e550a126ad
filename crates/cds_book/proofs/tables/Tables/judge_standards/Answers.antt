use Rattle.std.proofs.Common.{⊎_elim, inl, inr}
use Rattle.std.proofs.lemmas.Result.{err_from_is_err_and}
use Rattle.cds_book.specs.Judged.{standards_judged}
use Rattle.cds_book.proofs.Judging.{judged_err}
use Rattle.cds_book.proofs.tables.Tables.judge_standards.Goals as goal

pub returns-in_err-standard : goal.returns-in_err-standard
unfolding standards_judged
returns-in_err-standard c =
    let p = err_from_is_err_and c.from_residual.result c.from_residual.ensures.1 in
    rw (p.1, p.2) (⊎_elim (λ h. inl (judged_err _ _ _ _ c.index-listed-place.result _ c.loop-place.invariant c.loop-place-test.true c.index-listed-place.is h)) inr c.in_err-standard.ensures)
