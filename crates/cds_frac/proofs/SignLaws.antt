-- Laws of signs.
use Rattle.std.proofs.Common.{◌≡◌, ℕ, zero, suc, ◌*◌, ◌<◌, ℤ, pos, negsuc, neg_ℤ, ◌*ℤ◌, unsigned_abs, refl, sym, ap, ◌∙◌, arith, mul-pos}
use Rattle.std.proofs.Math.Nat.{eq_of_mul-eq-mul_right}
use Rattle.std.proofs.lemmas.Int.{unsigned_abs-mul}
use Rattle.cds_frac.specs.Fraction.{with_sign}
use Rattle.cds_frac.specs.FractionLaws.{with_sign-abs}

-- a number has the size that it is given with a sign
pub abs-with_sign : (z : ℤ) (n : ℕ) → unsigned_abs (with_sign z n) ≡ n
abs-with_sign (pos m) n = refl
abs-with_sign (negsuc m) zero = refl
abs-with_sign (negsuc m) (suc n) = refl

-- a number above 0, taken off, is no number from 0 on
neg-ne-pos : (n m : ℕ) → 0 < n → neg_ℤ (pos n) ≡ pos m → ⊥
neg-ne-pos zero m some e = omega arith
neg-ne-pos (suc n) m some e = cc

-- equal numbers have one sign
pub with_sign-cross : (x z : ℤ) (b q : ℕ) → 0 < b → 0 < q → x *ℤ pos b ≡ z *ℤ pos q → with_sign z (unsigned_abs x) ≡ x
with_sign-cross (pos n) (pos m) b q some more e = refl
with_sign-cross (pos n) (negsuc m) b q some more e = absurd (neg-ne-pos (suc m * q) (n * b) (mul-pos (omega arith) more) (sym e))
with_sign-cross (negsuc n) (pos m) b q some more e = absurd (neg-ne-pos (suc n * b) (m * q) (mul-pos (omega arith) some) e)
with_sign-cross (negsuc n) (negsuc m) b q some more e = refl

-- a factor above 0 on both sides may be left out
pub times_cancel : (x y : ℤ) (k : ℕ) → 0 < k → x *ℤ pos k ≡ y *ℤ pos k → x ≡ y
times_cancel x y k some same =
    let sizes : unsigned_abs x * k ≡ unsigned_abs y * k = sym (unsigned_abs-mul x (pos k)) ∙ ap unsigned_abs same ∙ unsigned_abs-mul y (pos k) in
    sym (with_sign-cross x y k k some some same) ∙ ap (with_sign y) (eq_of_mul-eq-mul_right k some (unsigned_abs x) (unsigned_abs y) sizes) ∙ with_sign-abs y
