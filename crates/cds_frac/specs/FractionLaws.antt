-- Laws of the order of fractions by cross products, with what they rest on. They stand here and not among the proofs,
-- since the order is declared with its laws.
use Rattle.std.proofs.Common.{◌≡◌, ℕ, zero, suc, ◌-◌, ◌*◌, ◌<◌, Bool, true, false, ℤ, pos, negsuc, neg_ℤ, ◌*ℤ◌, ◌<ℤ◌, unsigned_abs, int_cmp, nat_cmp, nat_eq, ◌&&◌, is_eq, max, Ordering, Less, Equal, Greater, refl, sym, ap, ap₂, ◌∙◌, arith, mul_comm, mul_assoc, zero-mul, mul-pos, mul-lt-mul_of_pos_right}
use Rattle.std.specs.Ordering.{as_partial_cmp, ordering_then, int_eq}
use Rattle.std.specs.Cmp.{int_cmp_is, IsTotalOrder, IsEquivalence, IsPartialOrder, partial_order_from_agreeing_total}
use Rattle.std.proofs.lemmas.Bool.{eqb-true}
use Rattle.std.proofs.lemmas.Bool.Decides.{nat_tests}
use Rattle.std.proofs.lemmas.Int.{ints}
use Rattle.std.proofs.lemmas.Cmp.{int_ranked, by_ranked, int_cmp_total, nat_cmp_total, then_total, on_total, on_equiv, and_equiv, int_eq_equiv, nat_eq_equiv}
use Rattle.cds_frac.specs.Fraction.{Fraction, with_sign}
use Rattle.cds_frac.specs.FractionOrder.{ratio_cmp, number_cmp, fraction_cmp, fraction_eq}

pub with_sign-abs : (z : ℤ) → with_sign z (unsigned_abs z) ≡ z
with_sign-abs (pos m) = refl
with_sign-abs (negsuc m) = refl

pub with_sign-mul : (z : ℤ) (n k : ℕ) → with_sign z n *ℤ pos k ≡ with_sign z (n * k)
with_sign-mul (pos m) n k = refl
with_sign-mul (negsuc m) zero k = rw (zero-mul k) refl
with_sign-mul (negsuc m) (suc n) k = refl

-- a number times two factors is the number times their product
pub times-times : (z : ℤ) (a b : ℕ) → (z *ℤ pos a) *ℤ pos b ≡ z *ℤ pos (a * b)
times-times z a b =
    let n : ℕ = unsigned_abs z in
    let once : (k : ℕ) → z *ℤ pos k ≡ with_sign z (n * k) = λ k. ap (λ y. y *ℤ pos k) (sym (with_sign-abs z)) ∙ with_sign-mul z n k in
    ap (λ y. y *ℤ pos b) (once a) ∙ with_sign-mul z (n * a) b ∙ ap (with_sign z) (mul_assoc n a b) ∙ sym (once (a * b))

-- the factors of a number may change places
pub times_right_comm : (z : ℤ) (a b : ℕ) → (z *ℤ pos a) *ℤ pos b ≡ (z *ℤ pos b) *ℤ pos a
times_right_comm z a b = times-times z a b ∙ ap (λ k. z *ℤ pos k) (mul_comm a b) ∙ sym (times-times z b a)

-- a number below 0 times a factor above 0
negsuc-times : (a k : ℕ) → 0 < k → negsuc a *ℤ pos k ≡ negsuc (suc a * k - 1)
negsuc-times a k some =
    let full : 0 < suc a * k = mul-pos (omega arith) some in
    let back : suc a * k ≡ suc (suc a * k - 1) = omega arith in
    ap (λ n. neg_ℤ (pos n)) back

-- a factor above 0 keeps the order
times_lt : (x y : ℤ) (k : ℕ) → 0 < k → x <ℤ y → (x *ℤ pos k) <ℤ (y *ℤ pos k)
times_lt (pos a) (pos b) k some lt = let le : a < b = omega (arith, ints) in omega (arith, ints, mul-lt-mul_of_pos_right {m = a} {n = b} {k = k} le some)
times_lt (pos a) (negsuc b) k some lt = absurd (omega (arith, ints))
times_lt (negsuc a) (pos b) k some lt = rw (negsuc-times a k some) (omega (arith, ints))
times_lt (negsuc a) (negsuc b) k some lt =
    let le : suc b < suc a = omega (arith, ints) in
    let more : suc b * k < suc a * k = mul-lt-mul_of_pos_right {m = suc b} {n = suc a} {k = k} le some in
    let full : 0 < suc b * k = mul-pos (omega arith) some in
    rw (negsuc-times a k some, negsuc-times b k some) (omega (arith, ints))

-- a factor above 0 on both sides changes nothing of how two numbers stand to one another
pub int_cmp-times : (x y : ℤ) (k : ℕ) → 0 < k → int_cmp (x *ℤ pos k) (y *ℤ pos k) ≡ int_cmp x y
int_cmp-times x y k some =
    by_ranked (x <ℤ y) (x ≡ y) (y <ℤ x) (int_cmp x y) (int_ranked x y (int_cmp x y) refl)
    (λ is lt. sym (int_cmp_is (x *ℤ pos k) (y *ℤ pos k) Less (times_lt x y k some lt)) ∙ sym is)
    (λ is e. sym (int_cmp_is (x *ℤ pos k) (y *ℤ pos k) Equal (ap (λ z. z *ℤ pos k) e)) ∙ sym is)
    (λ is gt. sym (int_cmp_is (x *ℤ pos k) (y *ℤ pos k) Greater (times_lt y x k some gt)) ∙ sym is)

-- of three numbers the first is below the third where it is below the second and that is below the third
ratio_trans : (a c e : ℤ) (b d f : ℕ) → 0 < b → 0 < d → 0 < f → ratio_cmp a b c d ≡ Less → ratio_cmp c d e f ≡ Less → ratio_cmp a b e f ≡ Less
ratio_trans a c e b d f b_some d_some f_some first second =
    sym (int_cmp-times (a *ℤ pos f) (e *ℤ pos b) d d_some)
    ∙ ap₂ int_cmp (times_right_comm a f d) (times_right_comm e b d)
    ∙ int_cmp_total.trans ((a *ℤ pos d) *ℤ pos f) ((c *ℤ pos b) *ℤ pos f) ((e *ℤ pos d) *ℤ pos b)
    (int_cmp-times (a *ℤ pos d) (c *ℤ pos b) f f_some ∙ first)
    (ap (λ y. int_cmp y ((e *ℤ pos d) *ℤ pos b)) (times_right_comm c b f) ∙ int_cmp-times (c *ℤ pos f) (e *ℤ pos d) b b_some ∙ second)

-- equal numbers stand alike to a third
ratio_congr : (a c e : ℤ) (b d f : ℕ) → 0 < b → 0 < d → 0 < f → ratio_cmp a b c d ≡ Equal → ratio_cmp a b e f ≡ ratio_cmp c d e f
ratio_congr a c e b d f b_some d_some f_some same =
    sym (int_cmp-times (a *ℤ pos f) (e *ℤ pos b) d d_some)
    ∙ ap₂ int_cmp (times_right_comm a f d) (times_right_comm e b d)
    ∙ int_cmp_total.congr ((a *ℤ pos d) *ℤ pos f) ((c *ℤ pos b) *ℤ pos f) ((e *ℤ pos d) *ℤ pos b) (int_cmp-times (a *ℤ pos d) (c *ℤ pos b) f f_some ∙ same)
    ∙ ap (λ y. int_cmp y ((e *ℤ pos d) *ℤ pos b)) (times_right_comm c b f)
    ∙ int_cmp-times (c *ℤ pos f) (e *ℤ pos d) b b_some

-- a denominator that counts is above 0
counted : (d : ℕ) → 0 < max 1 d
counted d = omega arith

-- fractions are in order as numbers
pub number_cmp_total : IsTotalOrder number_cmp
number_cmp_total = record {
  antisymm = λ f g. int_cmp_total.antisymm (f.num *ℤ pos (max 1 g.den)) (g.num *ℤ pos (max 1 f.den));
  trans = λ f g h. ratio_trans f.num g.num h.num (max 1 f.den) (max 1 g.den) (max 1 h.den) (counted f.den) (counted g.den) (counted h.den);
  congr = λ f g h. ratio_congr f.num g.num h.num (max 1 f.den) (max 1 g.den) (max 1 h.den) (counted f.den) (counted g.den) (counted h.den);
}

-- the order of fractions is one
pub fraction_cmp_total : IsTotalOrder fraction_cmp
fraction_cmp_total = then_total number_cmp_total (on_total (λ f. f.den) nat_cmp_total)

-- one order and then another tells nothing apart that neither does
is_eq-then : (r s : Ordering) → is_eq (ordering_then r s) ≡ (is_eq r && is_eq s)
is_eq-then Less s = refl
is_eq-then Equal s = refl
is_eq-then Greater s = refl

is_eq-nat_cmp : (m n : ℕ) → is_eq (nat_cmp m n) ≡ nat_eq m n
is_eq-nat_cmp m n = grind (arith, nat_tests)

-- two tests that agree where the third holds
both_where : (p q r : Bool) → (r ≡ true → p ≡ q) → (p && r) ≡ (q && r)
both_where p q true h = ap (λ b. b && true) (h refl)
both_where true true false h = refl
both_where true false false h = refl
both_where false true false h = refl
both_where false false false h = refl

-- two fractions are equal exactly where the order doesn't tell them apart
pub fraction_eq-is : (f g : Fraction) → fraction_eq f g ≡ is_eq (fraction_cmp f g)
fraction_eq-is f g =
    both_where (int_eq f.num g.num) (is_eq (number_cmp f g)) (nat_eq f.den g.den)
    (λ h. sym (ap is_eq (ap (λ d. int_cmp (f.num *ℤ pos (max 1 d)) (g.num *ℤ pos (max 1 f.den))) (sym (eqb-true f.den g.den h)) ∙ int_cmp-times f.num g.num (max 1 f.den) (counted f.den))))
    ∙ ap (λ b. is_eq (number_cmp f g) && b) (sym (is_eq-nat_cmp f.den g.den))
    ∙ sym (is_eq-then (number_cmp f g) (nat_cmp f.den g.den))

pub fraction_eq_equiv : IsEquivalence fraction_eq
fraction_eq_equiv = and_equiv (on_equiv (λ f. f.num) int_eq_equiv) (on_equiv (λ f. f.den) nat_eq_equiv)

pub fraction_partial_order : IsPartialOrder fraction_eq (as_partial_cmp fraction_cmp)
fraction_partial_order = partial_order_from_agreeing_total fraction_cmp fraction_cmp_total (λ f g. refl) fraction_eq-is
