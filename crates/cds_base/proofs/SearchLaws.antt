-- How a search for the greatest number goes on, and where it ends.
use Rattle.std.proofs.Common.{◌≡◌, ℕ, zero, suc, ◌+◌, ◌<◌, ◌≤◌, Bool, true, false, cond, refl, sym, ap, ◌∙◌, subst, arith, inl, inr}
use Rattle.std.proofs.lemmas.Bool.{cases_lt}
use Rattle.cds_base.specs.Search.{greatest}

-- the next number, where it passes, is the greatest
pub greatest-here : (test : ℕ → Bool) (n : ℕ) → test (n + 1) ≡ true → greatest test (n + 1) ≡ n + 1
unfolding greatest
greatest-here test n passes =
    let e : n + 1 ≡ suc n = omega arith in
    rw e (rw (rw e at passes) refl)

-- where it doesn't pass, the greatest stays
pub greatest-skip : (test : ℕ → Bool) (n : ℕ) → test (n + 1) ≡ false → greatest test (n + 1) ≡ greatest test n
unfolding greatest
greatest-skip test n fails =
    let e : n + 1 ≡ suc n = omega arith in
    rw e (rw (rw e at fails) refl)

-- the greatest number that passes is the one above which none does
pub greatest-is : (test : ℕ → Bool) (n low : ℕ) → low ≤ n → test low ≡ true → ((k : ℕ) → low < k → k ≤ n → test k ≡ false) → greatest test n ≡ low
unfolding greatest
greatest-is test zero low le here above = omega arith
greatest-is test (suc n) low le here above =
    elim (cases_lt low (suc n)) [
      | inl lt ↦ ap (λ b. cond b (suc n) (greatest test n)) (above (suc n) lt (omega arith)) ∙ greatest-is test n low (omega arith) here (λ k p q. above k p (omega arith))
      | inr ge ↦
          let same : low ≡ suc n = omega arith in
          ap (λ b. cond b (suc n) (greatest test n)) (subst (λ k. test k ≡ true) same here) ∙ sym same
    ]
