-- The amount by way of the number before the dilution.
use Rattle.std.proofs.Common.{◌≡◌, ℕ, ◌*◌, ◌^◌, ◌<◌, ◌≤◌, Bool, true, false, ◌&&◌, cond, ltb, Option, Some, None, Ok, Err, ℤ, pos, ◌*ℤ◌, unsigned_abs, sym, ap, ap₂, ◌∙◌, subst, mul-pos, inl, inr}
use Rattle.std.specs.Option.{SomeIff}
use Rattle.std.specs.Prelude.{ok_or}
use Rattle.std.proofs.lemmas.Bool.{cases_lt, lt-ltb, le-ltb}
use Rattle.cds_base.specs.declared.peak.Missing.TheVariants.{Unfit}
use Rattle.cds_frac.specs.Fraction.{Fraction, IsReduced, IsInRange, lowest_terms}
use Rattle.cds_frac.specs.FractionLaws.{times-times, times_right_comm}
use Rattle.cds_frac.proofs.LowestTerms.{IsReduced-lowest_terms, lowest_terms-cross, lowest_terms-same}
use Rattle.cds_calib.specs.Fit.{CalibrationLine}
use Rattle.cds_calib.specs.Amount.{above_intercept, undiluted, diluted, undiluted_fits, parts_fit, amount_of}

-- a fraction that equals z / b, with both of its parts multiplied, equals z / b with both parts multiplied
multiplied : (f : Fraction) (z : ℤ) (b u v : ℕ) → f.num *ℤ pos b ≡ z *ℤ pos f.den → (f.num *ℤ pos u) *ℤ pos (b * v) ≡ (z *ℤ pos u) *ℤ pos (f.den * v)
multiplied f z b u v same =
    sym (times-times (f.num *ℤ pos u) b v)
    ∙ ap (λ n. n *ℤ pos v) (times_right_comm f.num u b ∙ ap (λ n. n *ℤ pos u) same ∙ times_right_comm z f.den u)
    ∙ times-times (z *ℤ pos u) f.den v

-- the number before the dilution, times the dilution, is the amount
pub diluted_is : (line : CalibrationLine) (y u v : ℕ) (f : Fraction) → 0 < line.slope → 1 ≤ v → f ≡ undiluted line y → lowest_terms (f.num *ℤ pos u) (f.den * v) ≡ diluted line y u v
diluted_is line y u v f rises some is =
    let reduced : IsReduced f = subst IsReduced (sym is) (IsReduced-lowest_terms (above_intercept line y) line.slope rises) in
    let same : f.num *ℤ pos line.slope ≡ above_intercept line y *ℤ pos f.den = subst (λ g. g.num *ℤ pos line.slope ≡ above_intercept line y *ℤ pos g.den) (sym is) (lowest_terms-cross (above_intercept line y) line.slope rises) in
    lowest_terms-same (f.num *ℤ pos u) (above_intercept line y *ℤ pos u) (f.den * v) (line.slope * v) (mul-pos reduced.0 some) (mul-pos rises some) (multiplied f (above_intercept line y) line.slope u v same)

parts_fit-true : (f : Fraction) → IsInRange f → parts_fit f ≡ true
parts_fit-true f is = ap₂ (λ a b. a && b) (lt-ltb (unsigned_abs f.num) (2 ^ 126) is.0) (lt-ltb f.den (2 ^ 126) is.1)

parts_fit-false : (f : Fraction) → (IsInRange f → ⊥) → parts_fit f ≡ false
parts_fit-false f past =
    elim (cases_lt (unsigned_abs f.num) (2 ^ 126)) [
      | inl a ↦ elim (cases_lt f.den (2 ^ 126)) [
        | inl b ↦ absurd (past (a, b))
        | inr b ↦ ap₂ (λ a b. a && b) (lt-ltb (unsigned_abs f.num) (2 ^ 126) a) (le-ltb f.den (2 ^ 126) b)
      ]
      | inr a ↦ ap (λ c. c && ltb f.den (2 ^ 126)) (le-ltb (unsigned_abs f.num) (2 ^ 126) a)
    ]

-- the amount where the product is in range, and Unfit where it isn't
answered : (f : Fraction) (r : Option Fraction) (fits : Bool) → fits ≡ true → SomeIff r (IsInRange f) f → ok_or r Unfit ≡ cond (fits && parts_fit f) (Ok f) (Err Unfit)
answered f None fits yes_fits past = ap (λ b. cond b (Ok f) (Err Unfit)) (sym (ap₂ (λ a b. a && b) yes_fits (parts_fit-false f past)))
answered f (Some g) fits yes_fits is = ap Ok is.1 ∙ ap (λ b. cond b (Ok f) (Err Unfit)) (sym (ap₂ (λ a b. a && b) yes_fits (parts_fit-true f is.0)))

pub amount_answer : (line : CalibrationLine) (y u v : ℕ) (f : Fraction) (r : Option Fraction) → 0 < line.slope → 1 ≤ v → undiluted_fits line.weight line y ≡ true → f ≡ undiluted line y → SomeIff r (IsInRange (lowest_terms (f.num *ℤ pos u) (f.den * v))) (lowest_terms (f.num *ℤ pos u) (f.den * v)) → ok_or r Unfit ≡ amount_of line y u v
amount_answer line y u v f r rises some fits is times =
    answered (diluted line y u v) r (undiluted_fits line.weight line y) fits (subst (λ g. SomeIff r (IsInRange g) g) (diluted_is line y u v f rises some is) times)
