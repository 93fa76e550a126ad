-- Laws of whole numbers.
use Rattle.std.proofs.Common.{◌≡◌, ℕ, suc, ◌*◌, ◌/◌, ◌^◌, ◌<◌, ◌≤◌, ℤ, pos, negsuc, ◌+ℤ◌, ◌*ℤ◌, neg_ℤ, ◌≤ℤ◌, refl, sym}
use Rattle.std.proofs.Common.{ap, ◌∙◌, arith}
use Rattle.std.specs.Prelude.{unsigned_abs}
use Rattle.std.proofs.lemmas.Int.{ints, unsigned_abs-mul}
use Rattle.std.proofs.Math.IntN.{pos-*ℤ-pos, negsuc-*ℤ-pos}
use Rattle.std.proofs.Math.Nat.{mul-div_cancel, mul-le-mul_right, mul-pos, mul_assoc, mul_comm}
use Rattle.cds_trace.specs.declared.trace.TheConstants.{MOST_SAMPLES}
use Rattle.cds_integrate.specs.Standing.{most_area}
use Rattle.cds_area.proofs.LineLaws.{add-mul, neg-mul}

-- what is a multiple is divided exactly
pub exact-div : (z : ℤ) (s : ℕ) → 0 < s → unsigned_abs (z *ℤ pos s) / s ≡ unsigned_abs z
exact-div z s some = rw unsigned_abs-mul (mul-div_cancel (unsigned_abs z) some)

-- a number that isn't negative is its own size
pub size-of : (z : ℤ) → pos 0 ≤ℤ z → pos (unsigned_abs z) ≡ z
size-of (pos n) h = refl
size-of (negsuc n) h = absurd (omega (arith, ints))

-- an area over a line of a trace is far below what a number of 128 bits holds
pub area-fits : (num range den : ℕ) → num ≤ most_area range den → range ≤ MOST_SAMPLES → den ≤ 2 * MOST_SAMPLES →
    num < 2 ^ 66
area-fits num range den most range_most den_most =
    omega (arith, most, mul-le-mul_right den range_most)

-- of numbers whose multiple by a number above 0 isn't negative none is negative
pub times-sign : (z : ℤ) (s : ℕ) → 0 < s → pos 0 ≤ℤ (z *ℤ pos s) → pos 0 ≤ℤ z
times-sign (pos n) s some h = omega (arith, ints)
times-sign (negsuc n) s some h = absurd (omega (arith, ints, mul-pos {m = suc n} {n = s} (omega arith) some))

-- a multiple of a multiple
pub mul-mul : (z : ℤ) (m n : ℕ) → (z *ℤ pos m) *ℤ pos n ≡ z *ℤ pos (m * n)
mul-mul (pos a) m n =
    ap (λ (z : ℤ). z *ℤ pos n) (pos-*ℤ-pos a m) ∙ (pos-*ℤ-pos (a * m) n ∙
    (ap pos (mul_assoc a m n) ∙ sym (pos-*ℤ-pos a (m * n))))
mul-mul (negsuc a) m n =
    let turned : neg_ℤ (pos (suc a * m)) *ℤ pos n ≡ neg_ℤ (pos (suc a * m * n)) =
    neg-mul (pos (suc a * m)) n ∙ ap neg_ℤ (pos-*ℤ-pos (suc a * m) n) in
    ap (λ (z : ℤ). z *ℤ pos n) (negsuc-*ℤ-pos a m) ∙ (turned ∙
    (ap (λ (k : ℕ). neg_ℤ (pos k)) (mul_assoc (suc a) m n) ∙ sym (negsuc-*ℤ-pos a (m * n))))

-- the two numbers may change places
pub mul-turn : (z : ℤ) (m n : ℕ) → (z *ℤ pos m) *ℤ pos n ≡ (z *ℤ pos n) *ℤ pos m
mul-turn z m n = mul-mul z m n ∙ (ap (λ (k : ℕ). z *ℤ pos k) (mul_comm m n) ∙ sym (mul-mul z n m))

-- numbers with the same multiple are the same
pub mul-cancel : (z w : ℤ) (s : ℕ) → 0 < s → z *ℤ pos s ≡ w *ℤ pos s → z ≡ w
mul-cancel z w s some same =
    let up : pos 0 ≤ℤ ((z +ℤ neg_ℤ w) *ℤ pos s) = rw (add-mul z (neg_ℤ w) s, neg-mul w s) (omega (arith, ints, same)) in
    let down : pos 0 ≤ℤ ((w +ℤ neg_ℤ z) *ℤ pos s) =
    rw (add-mul w (neg_ℤ z) s, neg-mul z s) (omega (arith, ints, same)) in
    omega (arith, ints, times-sign (z +ℤ neg_ℤ w) s some up, times-sign (w +ℤ neg_ℤ z) s some down)

-- what is over a divisor the same as a fraction is the same as each equal fraction
pub share-same : (share num other : ℤ) (den width common : ℕ) → 0 < width → share *ℤ pos width ≡ num *ℤ pos common →
    other *ℤ pos width ≡ num *ℤ pos den →
    share *ℤ pos den ≡ other *ℤ pos common
share-same share num other den width common some is same =
    let left = mul-turn share den width ∙ (ap (λ (z : ℤ). z *ℤ pos den) is ∙ mul-turn num common den) in
    let right = mul-turn other common width ∙ ap (λ (z : ℤ). z *ℤ pos common) same in
    mul-cancel (share *ℤ pos den) (other *ℤ pos common) width some (left ∙ sym right)
