-- A number in lowest terms: that it is the number, that it can't be shortened, and that no other fraction is.
use Rattle.std.proofs.Common.{◌≡◌, ℕ, zero, suc, ◌+◌, ◌-◌, ◌*◌, ◌/◌, ◌%◌, ◌<◌, ◌≤◌, Bool, true, false, cond, eqb, ℤ, pos, ◌*ℤ◌, unsigned_abs, refl, sym, ap, ap₂, ◌∙◌, subst, arith, int_cmp, nat_cmp, is_eq, ◌↔◌, max, Ordering, Less, Equal, Greater, subst₂, ◌^◌, inl, inr, mul_comm, mul_assoc, mul_right_comm, mul-div_cancel, mul-pos, eq-or-lt_of_le}
use Rattle.std.specs.Int.{◌∣◌, IsGcd}
use Rattle.std.proofs.Math.Nat.{dvd-mul_left, div-mul_cancel, mul-mod_left, dvd_of_mod-eq-zero, le_of_dvd, eq_of_mul-eq-mul_right, pos_of_dvd_of_pos}
use Rattle.std.specs.Ordering.{ordering_then}
use Rattle.std.specs.Cmp.{int_cmp_is}
use Rattle.std.proofs.Math.Nat.{max-eq_right}
use Rattle.std.proofs.lemmas.Cmp.{int_ranked, tied_itself, nat_cmp_total}
use Rattle.std.proofs.lemmas.Bool.{eq-eqb, ne_eqb}
use Rattle.std.proofs.lemmas.Int.{unsigned_abs-mul}
use Rattle.cds_frac.specs.Divisors.{AreCoprime, least_from}
use Rattle.cds_frac.specs.Fraction.{Fraction, IsReduced, IsInRange, IsFrac, IsProduct, with_sign, least_den, lowest_terms}
use Rattle.cds_frac.specs.FractionOrder.{ratio_cmp, number_cmp, fraction_cmp, fraction_eq}
use Rattle.cds_frac.specs.FractionLaws.{with_sign-abs, with_sign-mul, times_right_comm, times-times, fraction_eq-is}
use Rattle.cds_frac.proofs.SignLaws.{abs-with_sign, with_sign-cross, times_cancel}
use Rattle.cds_frac.proofs.Coprime.{dvd_other_factor, coprime_swap, coprime_quotients, coprime_divisors, coprime_products, factor_divides, exists_gcd}

-- the least number that passes is the one that passes after none did
pub least_from-is : (test : ℕ → Bool) (n turns k : ℕ) → n ≤ k → k ≤ n + turns → test k ≡ true → ((j : ℕ) → n ≤ j → j < k → test j ≡ false) → least_from test n turns ≡ k
unfolding least_from
least_from-is test n zero k low high here before = omega arith
least_from-is test n (suc turns) k low high here before =
    elim (eq-or-lt_of_le low) [
      | inl e ↦ ap (λ b. cond b n (least_from test (suc n) turns)) (ap test e ∙ here) ∙ e
      | inr lt ↦ ap (λ b. cond b n (least_from test (suc n) turns)) (before n (omega arith) lt) ∙ least_from-is test (suc n) turns k lt (omega arith) here (λ j p q. before j (omega arith) q)
    ]

-- with p / q in lowest terms and equal to a / b, no denominator below q writes a / b
no_smaller_den : (p q a b j : ℕ) → 0 < b → AreCoprime p q → p * b ≡ a * q → 0 < j → j < q → a * j % b ≡ 0 → ⊥
no_smaller_den p q a b j some apart same at_least below exact =
    let t : ℕ = a * j / b in
    let whole : t * b ≡ a * j = div-mul_cancel b (dvd_of_mod-eq-zero b exact) in
    let grown : (p * j) * b ≡ (t * q) * b =
    mul_right_comm p j b ∙ ap (λ n. n * j) same ∙ mul_right_comm a q j ∙ ap (λ n. n * q) (sym whole) ∙ mul_right_comm t b q in
    let divides : q ∣ p * j = subst (λ n. q ∣ n) (sym (eq_of_mul-eq-mul_right b some (p * j) (t * q) grown)) (dvd-mul_left q t) in
    let le : q ≤ j = le_of_dvd at_least (dvd_other_factor q p j (coprime_swap p q apart) divides) in
    omega arith

-- with p / q in lowest terms and equal to a / b, q is the least denominator of a / b
pub least_den-is : (p q a b : ℕ) → 0 < q → 0 < b → AreCoprime p q → p * b ≡ a * q → least_den a b ≡ q
unfolding least_den
least_den-is p q a b more some apart same =
    let divides : q ∣ b = dvd_other_factor q p b (coprime_swap p q apart) (subst (λ n. q ∣ n) (sym same) (dvd-mul_left q a)) in
    let le : q ≤ b = le_of_dvd some divides in
    let exact : a * q % b ≡ 0 = ap (λ n. n % b) (sym same) ∙ mul-mod_left p b in
    least_from-is (λ d. eqb (a * d % b) 0) 1 (b - 1) q (omega arith) (omega arith) (eq-eqb (a * q % b) 0 exact)
    (λ j low below. ne_eqb (a * j % b) 0 (λ zero_left. no_smaller_den p q a b j some apart same (omega arith) below zero_left))

-- a fraction in lowest terms that equals z / b is z / b in lowest terms
pub lowest_terms-is : (f : Fraction) (z : ℤ) (b : ℕ) → IsReduced f → 0 < b → f.num *ℤ pos b ≡ z *ℤ pos f.den → f ≡ lowest_terms z b
unfolding lowest_terms
lowest_terms-is f z b reduced some same =
    let p : ℕ = unsigned_abs f.num in
    let a : ℕ = unsigned_abs z in
    let sizes : p * b ≡ a * f.den = sym (unsigned_abs-mul f.num (pos b)) ∙ ap unsigned_abs same ∙ unsigned_abs-mul z (pos f.den) in
    let den_is : least_den a b ≡ f.den = least_den-is p f.den a b reduced.0 some reduced.1 sizes in
    let size_is : a * f.den / b ≡ p = ap (λ n. n / b) (sym sizes) ∙ mul-div_cancel p some in
    let num_is : with_sign z (a * least_den a b / b) ≡ f.num = ap (λ d. with_sign z (a * d / b)) den_is ∙ ap (with_sign z) size_is ∙ with_sign-cross f.num z b f.den some reduced.0 same in
    ap₂ (λ n d. record { num = n; den = d }) (sym num_is) (sym den_is)

-- z / b, both divided by the greatest common divisor
unfoldable pub shortened : ℤ → ℕ → ℕ → Fraction
shortened z b g = record { num = with_sign z (unsigned_abs z / g); den = b / g }

pos_from_product : (n m : ℕ) → 0 < n * m → 0 < n
pos_from_product zero m some = absurd (omega arith)
pos_from_product (suc n) m some = omega arith

-- a divisor of a number above 0 is above 0, and so is the quotient
pub quotient_pos : (b g : ℕ) → 0 < b → g ∣ b → (0 < g) × (0 < b / g)
quotient_pos b g some part =
    let whole : b / g * g ≡ b = div-mul_cancel g part in
    (pos_of_dvd_of_pos part some, pos_from_product (b / g) g (subst (λ n. 0 < n) (sym whole) some))

-- divided by the greatest common divisor, a fraction can't be shortened
pub IsReduced-shortened : (z : ℤ) (b g : ℕ) → 0 < b → IsGcd (unsigned_abs z) b g → IsReduced (shortened z b g)
unfolding shortened
IsReduced-shortened z b g some is =
    let above : (0 < g) × (0 < b / g) = quotient_pos b g some is.1 in
    (above.1, subst (λ n. AreCoprime n (b / g)) (sym (abs-with_sign z (unsigned_abs z / g))) (coprime_quotients (unsigned_abs z) b g above.0 is))

-- and it is the same number
shortened-cross : (z : ℤ) (b g : ℕ) → IsGcd (unsigned_abs z) b g → (shortened z b g).num *ℤ pos b ≡ z *ℤ pos (shortened z b g).den
unfolding shortened
shortened-cross z b g is =
    let a : ℕ = unsigned_abs z in
    let top : a / g * g ≡ a = div-mul_cancel g is.0 in
    let low : b / g * g ≡ b = div-mul_cancel g is.1 in
    let sizes : a / g * b ≡ a * (b / g) = ap (λ n. a / g * n) (sym low) ∙ ap (λ n. a / g * n) (mul_comm (b / g) g) ∙ sym (mul_assoc (a / g) g (b / g)) ∙ ap (λ n. n * (b / g)) top in
    with_sign-mul z (a / g) b ∙ ap (with_sign z) sizes ∙ sym (with_sign-mul z a (b / g)) ∙ ap (λ y. y *ℤ pos (b / g)) (with_sign-abs z)

-- dividing by the greatest common divisor gives the lowest terms
pub lowest_terms-shortened : (z : ℤ) (b g : ℕ) → 0 < b → IsGcd (unsigned_abs z) b g → shortened z b g ≡ lowest_terms z b
lowest_terms-shortened z b g some is = lowest_terms-is (shortened z b g) z b (IsReduced-shortened z b g some is) some (shortened-cross z b g is)

-- the lowest terms of a number are in lowest terms
pub IsReduced-lowest_terms : (z : ℤ) (b : ℕ) → 0 < b → IsReduced (lowest_terms z b)
IsReduced-lowest_terms z b some =
    let common : (g : ℕ) × (IsGcd (unsigned_abs z) b g × ((c : ℕ) → IsGcd (unsigned_abs z * c) (b * c) (g * c))) = exists_gcd b (unsigned_abs z) b (omega arith) in
    subst IsReduced (lowest_terms-shortened z b common.0 some common.1.0) (IsReduced-shortened z b common.0 some common.1.0)

-- the lowest terms of a number are that number
pub lowest_terms-cross : (z : ℤ) (b : ℕ) → 0 < b → (lowest_terms z b).num *ℤ pos b ≡ z *ℤ pos (lowest_terms z b).den
lowest_terms-cross z b some =
    let common : (g : ℕ) × (IsGcd (unsigned_abs z) b g × ((c : ℕ) → IsGcd (unsigned_abs z * c) (b * c) (g * c))) = exists_gcd b (unsigned_abs z) b (omega arith) in
    subst (λ f. f.num *ℤ pos b ≡ z *ℤ pos f.den) (lowest_terms-shortened z b common.0 some common.1.0) (shortened-cross z b common.0 common.1.0)

-- two fractions in lowest terms that are one number are the same
pub same_from_cross : (f g : Fraction) → IsReduced f → IsReduced g → f.num *ℤ pos g.den ≡ g.num *ℤ pos f.den → f ≡ g
same_from_cross f g f_reduced g_reduced same =
    lowest_terms-is f g.num g.den f_reduced g_reduced.0 same ∙ sym (lowest_terms-is g g.num g.den g_reduced g_reduced.0 refl)

-- equal numbers have the same lowest terms
pub lowest_terms-same : (a c : ℤ) (b d : ℕ) → 0 < b → 0 < d → a *ℤ pos d ≡ c *ℤ pos b → lowest_terms a b ≡ lowest_terms c d
lowest_terms-same a c b d b_some d_some same =
    let f : Fraction = lowest_terms a b in
    let value : f.num *ℤ pos b ≡ a *ℤ pos f.den = lowest_terms-cross a b b_some in
    let grown : (f.num *ℤ pos d) *ℤ pos b ≡ (c *ℤ pos f.den) *ℤ pos b =
    times_right_comm f.num d b ∙ ap (λ z. z *ℤ pos d) value ∙ times_right_comm a f.den d ∙ ap (λ z. z *ℤ pos f.den) same ∙ times_right_comm c b f.den in
    lowest_terms-is f c d (IsReduced-lowest_terms a b b_some) d_some (times_cancel (f.num *ℤ pos d) (c *ℤ pos f.den) b b_some grown)

-- a second order decides nothing where it ties with the first
then_ties : (r s : Ordering) → (r ≡ Equal → s ≡ Equal) → ordering_then r s ≡ r
then_ties Less s h = refl
then_ties Equal s h = h refl
then_ties Greater s h = refl

same_from_int_cmp : (x y : ℤ) → int_cmp x y ≡ Equal → x ≡ y
same_from_int_cmp x y tied = int_ranked x y Equal (sym tied)

-- of fractions in lowest terms the order is that of the cross products
pub fraction_cmp-reduced : (f g : Fraction) → IsReduced f → IsReduced g → fraction_cmp f g ≡ ratio_cmp f.num f.den g.num g.den
fraction_cmp-reduced f g f_reduced g_reduced =
    let first : max 1 f.den ≡ f.den = max-eq_right f_reduced.0 in
    let second : max 1 g.den ≡ g.den = max-eq_right g_reduced.0 in
    let number : number_cmp f g ≡ ratio_cmp f.num f.den g.num g.den = ap₂ (λ b d. ratio_cmp f.num b g.num d) first second in
    ap (λ r. ordering_then r (nat_cmp f.den g.den)) number
    ∙ then_ties (ratio_cmp f.num f.den g.num g.den) (nat_cmp f.den g.den)
    (λ tied.
    let cross : f.num *ℤ pos g.den ≡ g.num *ℤ pos f.den = same_from_int_cmp (f.num *ℤ pos g.den) (g.num *ℤ pos f.den) tied in
    ap (λ h. nat_cmp f.den h.den) (sym (same_from_cross f g f_reduced g_reduced cross)) ∙ tied_itself nat_cmp_total f.den)

equal_from_is_eq : (r : Ordering) → is_eq r ≡ true → r ≡ Equal
equal_from_is_eq Less e = cc
equal_from_is_eq Equal e = refl
equal_from_is_eq Greater e = cc

-- fractions in lowest terms have the same parts exactly where they are one number
pub fraction_eq-number : (f g : Fraction) (same : Bool) → IsReduced f → IsReduced g → same ≡ fraction_eq f g → (same ≡ true) ↔ (f.num *ℤ pos g.den ≡ g.num *ℤ pos f.den)
fraction_eq-number f g same f_reduced g_reduced is =
    let order : same ≡ is_eq (ratio_cmp f.num f.den g.num g.den) = is ∙ fraction_eq-is f g ∙ ap is_eq (fraction_cmp-reduced f g f_reduced g_reduced) in (
      λ e. same_from_int_cmp (f.num *ℤ pos g.den) (g.num *ℤ pos f.den) (equal_from_is_eq (ratio_cmp f.num f.den g.num g.den) (sym order ∙ e)),
      λ cross. order ∙ ap is_eq (sym (int_cmp_is (f.num *ℤ pos g.den) (g.num *ℤ pos f.den) Equal cross)),
    )

-- the number with this size and sign is a `Frac`
pub IsFrac-with_sign : (z : ℤ) (n d : ℕ) → 0 < d → AreCoprime n d → n < 2 ^ 126 → d < 2 ^ 126 → IsFrac (record { num = with_sign z n; den = d })
IsFrac-with_sign z n d some apart n_below d_below =
    record {
      reduced = (some, subst (λ m. AreCoprime m d) (sym (abs-with_sign z n)) apart);
      in_range = (subst (λ m. m < 2 ^ 126) (sym (abs-with_sign z n)) n_below, d_below);
    }

-- both parts divided by the greatest common divisor are the number in lowest terms
pub divided_parts : (f : Fraction) (z y : ℤ) (b g size whole : ℕ) → f ≡ record { num = with_sign y (size / g); den = whole / g } → y ≡ z → size ≡ unsigned_abs z → whole ≡ b → 0 < b → IsGcd size whole g → f ≡ lowest_terms z b
unfolding shortened
divided_parts f z y b g size whole parts sign_is size_is whole_is some is =
    let common : IsGcd (unsigned_abs z) b g = subst₂ (λ m n. IsGcd m n g) size_is whole_is is in
    parts
    ∙ ap (λ x. record { num = with_sign x (size / g); den = whole / g }) sign_is
    ∙ ap₂ (λ m n. record { num = with_sign z (m / g); den = n / g }) size_is whole_is
    ∙ lowest_terms-shortened z b g some common

-- what is cancelled crosswise leaves the product as it is
cancelled : (m q u v m' u' q' v' a b c : ℕ) → m' * a ≡ m → u' * b * c ≡ u → q' * b ≡ q → v' * a * c ≡ v → m' * u' * (q * v) ≡ m * (u * (q' * v'))
cancelled m q u v m' u' q' v' a b c m_is u_is q_is v_is =
    let regrouped : m' * u' * (q' * b * (v' * a * c)) ≡ m' * a * (u' * b * c * (q' * v')) = omega arith in
    ap₂ (λ x y. m' * u' * (x * y)) (sym q_is) (sym v_is) ∙ regrouped ∙ ap₂ (λ x y. x * (y * (q' * v'))) m_is u_is

-- the product's parts, once every common divisor of a part above and a part below is cancelled
pub IsProduct-cancelled : (m q u v a b c : ℕ) → 0 < q → 0 < v → AreCoprime m q → IsGcd u v c → IsGcd m (v / c) a → IsGcd (u / c) q b → IsProduct m q u v (m / a * (u / c / b)) (q / b * (v / c / a))
IsProduct-cancelled m q u v a b c q_some v_some apart outer above below =
    let v_pos : (0 < c) × (0 < v / c) = quotient_pos v c v_some outer.1 in
    let v'_pos : (0 < a) × (0 < v / c / a) = quotient_pos (v / c) a v_pos.1 above.1 in
    let q'_pos : (0 < b) × (0 < q / b) = quotient_pos q b q_some below.1 in
    let m' : ℕ = m / a in
    let u' : ℕ = u / c / b in
    let q' : ℕ = q / b in
    let v' : ℕ = v / c / a in
    let m_is : m' * a ≡ m = div-mul_cancel a above.0 in
    let u_is : u' * b * c ≡ u = ap (λ n. n * c) (div-mul_cancel b below.0) ∙ div-mul_cancel c outer.0 in
    let q_is : q' * b ≡ q = div-mul_cancel b below.1 in
    let v_is : v' * a * c ≡ v = ap (λ n. n * c) (div-mul_cancel a above.1) ∙ div-mul_cancel c outer.1 in
    let m'_q' : AreCoprime m' q' = coprime_divisors m q m' q' apart (factor_divides m' a m m_is) (factor_divides q' b q q_is) in
    let m'_v' : AreCoprime m' v' = coprime_quotients m (v / c) a v'_pos.0 above in
    let u'_q' : AreCoprime u' q' = coprime_quotients (u / c) q b q'_pos.0 below in
    let u'_v' : AreCoprime u' v' = coprime_divisors (u / c) (v / c) u' v' (coprime_quotients u v c v_pos.0 outer) (factor_divides u' b (u / c) (div-mul_cancel b below.0)) (factor_divides v' a (v / c) (div-mul_cancel a above.1)) in
    record {
      positive = mul-pos q'_pos.1 v'_pos.1;
      coprime = coprime_products m' u' q' v' m'_q' m'_v' u'_q' u'_v';
      number = cancelled m q u v m' u' q' v' a b c m_is u_is q_is v_is ∙ sym (mul_assoc m u (q' * v'));
    }

-- the parts of a product are the same whatever finds them
pub same_product : (z : ℤ) (q u v n d : ℕ) → 0 < q → 0 < v → IsProduct (unsigned_abs z) q u v n d → record { num = with_sign z n; den = d } ≡ lowest_terms (z *ℤ pos u) (q * v)
same_product z q u v n d q_some v_some is =
    let f : Fraction = record { num = with_sign z n; den = d } in
    let reduced : IsReduced f = (is.positive, subst (λ m. AreCoprime m d) (sym (abs-with_sign z n)) is.coprime) in
    let cross : with_sign z n *ℤ pos (q * v) ≡ (z *ℤ pos u) *ℤ pos d =
    with_sign-mul z n (q * v)
    ∙ ap (with_sign z) (is.number ∙ mul_assoc (unsigned_abs z) u d)
    ∙ sym (with_sign-mul z (unsigned_abs z) (u * d))
    ∙ ap (λ y. y *ℤ pos (u * d)) (with_sign-abs z)
    ∙ sym (times-times z u d) in
    lowest_terms-is f (z *ℤ pos u) (q * v) reduced (mul-pos q_some v_some) cross

-- the number's lowest terms are parts of the product
pub IsProduct-lowest_terms : (z : ℤ) (q u v : ℕ) → 0 < q → 0 < v → IsProduct (unsigned_abs z) q u v (unsigned_abs (lowest_terms (z *ℤ pos u) (q * v)).num) (lowest_terms (z *ℤ pos u) (q * v)).den
IsProduct-lowest_terms z q u v q_some v_some =
    let f : Fraction = lowest_terms (z *ℤ pos u) (q * v) in
    let some : 0 < q * v = mul-pos q_some v_some in
    let reduced : IsReduced f = IsReduced-lowest_terms (z *ℤ pos u) (q * v) some in
    let sizes : unsigned_abs f.num * (q * v) ≡ unsigned_abs (z *ℤ pos u) * f.den = sym (unsigned_abs-mul f.num (pos (q * v))) ∙ ap unsigned_abs (lowest_terms-cross (z *ℤ pos u) (q * v) some) ∙ unsigned_abs-mul (z *ℤ pos u) (pos f.den) in
    record { positive = reduced.0; coprime = reduced.1; number = sizes ∙ ap (λ n. n * f.den) (unsigned_abs-mul z (pos u)) }

-- and they are the only ones
pub same_parts : (m q u v n d n' d' : ℕ) → 0 < q → 0 < v → IsProduct m q u v n d → IsProduct m q u v n' d' → (n ≡ n') × (d ≡ d')
same_parts m q u v n d n' d' q_some v_some p p' =
    let first : Fraction = record { num = pos n; den = d } in
    let second : Fraction = record { num = pos n'; den = d' } in
    let e : first ≡ second = same_product (pos m) q u v n d q_some v_some p ∙ sym (same_product (pos m) q u v n' d' q_some v_some p') in
    (ap (λ (f : Fraction). unsigned_abs f.num) e, ap (λ (f : Fraction). f.den) e)

-- a product whose parts are in range is the number that they are
pub times_in_range : (f r : Fraction) (y : ℤ) (size u v n d : ℕ) → IsFrac f → 0 < v → size ≡ unsigned_abs f.num → y ≡ f.num → IsProduct size f.den u v n d → n < 2 ^ 126 → d < 2 ^ 126 → r ≡ record { num = with_sign y n; den = d } → IsInRange (lowest_terms (f.num *ℤ pos u) (f.den * v)) × (r ≡ lowest_terms (f.num *ℤ pos u) (f.den * v))
times_in_range f r y size u v n d frac v_some size_is sign_is parts n_below d_below is =
    let own : IsProduct (unsigned_abs f.num) f.den u v n d = subst (λ m. IsProduct m f.den u v n d) size_is parts in
    let product : Fraction = record { num = with_sign f.num n; den = d } in
    let number : product ≡ lowest_terms (f.num *ℤ pos u) (f.den * v) = same_product f.num f.den u v n d frac.reduced.0 v_some own in
    let in_range : IsInRange product = (subst (λ m. m < 2 ^ 126) (sym (abs-with_sign f.num n)) n_below, d_below) in
    (subst IsInRange number in_range, is ∙ ap (λ z. record { num = with_sign z n; den = d }) sign_is ∙ number)

-- a product that is in range has parts that are
pub times_past_range : (f : Fraction) (size u v : ℕ) → IsFrac f → 0 < v → size ≡ unsigned_abs f.num → ((n d : ℕ) → IsProduct size f.den u v n d → n < 2 ^ 126 → d < 2 ^ 126 → ⊥) → IsInRange (lowest_terms (f.num *ℤ pos u) (f.den * v)) → ⊥
times_past_range f size u v frac v_some size_is none in_range =
    none (unsigned_abs (lowest_terms (f.num *ℤ pos u) (f.den * v)).num) (lowest_terms (f.num *ℤ pos u) (f.den * v)).den
    (subst (λ m. IsProduct m f.den u v (unsigned_abs (lowest_terms (f.num *ℤ pos u) (f.den * v)).num) (lowest_terms (f.num *ℤ pos u) (f.den * v)).den) (sym size_is) (IsProduct-lowest_terms f.num f.den u v frac.reduced.0 v_some))
    in_range.0 in_range.1
