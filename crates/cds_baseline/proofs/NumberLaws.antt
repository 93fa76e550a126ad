-- Laws of tests of whole numbers up to a bound.
use Rattle.std.proofs.Common.{◌≡◌, ℕ, zero, suc, ◌<◌, Bool, true, false, inl, inr, refl, arith}
use Rattle.std.proofs.lemmas.Bool.{and_parts, and_from, and_left, and_right, cases_eq}
use Rattle.cds_baseline.specs.Numbers.{each_below}

-- what passes for each number passes for one of them
pub each_below-at : (test : ℕ → Bool) (n k : ℕ) → each_below test n ≡ true → k < n → test k ≡ true
each_below-at test zero k all below = absurd (omega arith)
each_below-at test (suc n) k all below =
    elim (cases_eq k n) [
      | inl same ↦ rw same (and_parts _ _ all).1
      | inr other ↦ each_below-at test n k (and_parts _ _ all).0 (omega arith)
    ]

-- what passes for each of the numbers passes for all
pub each_below-from : (test : ℕ → Bool) (n : ℕ) → ((k : ℕ) → k < n → test k ≡ true) → each_below test n ≡ true
each_below-from test zero each = refl
each_below-from test (suc n) each =
    and_from _ _ (each_below-from test n (λ k below. each k (omega arith))) (each n (omega arith))

-- what fails for one of the numbers fails for all
pub each_below-fails : (test : ℕ → Bool) (n k : ℕ) → k < n → test k ≡ false → each_below test n ≡ false
each_below-fails test zero k below fails = absurd (omega arith)
each_below-fails test (suc n) k below fails =
    elim (cases_eq k n) [
      | inl same ↦ and_right (each_below test n) (test n) (rw same at fails)
      | inr other ↦ and_left (each_below test n) (test n) (each_below-fails test n k (omega arith) fails)
    ]
