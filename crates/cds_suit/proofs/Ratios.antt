-- A fraction in lowest terms stands to another as it does before it is shortened.
use Rattle.std.proofs.Common.{◌≡◌, ℕ, ◌*◌, ◌<◌, ℤ, pos, ◌*ℤ◌, int_cmp, nat_cmp, Ordering, sym, ap, ap₂, ◌∙◌, subst, arith}
use Rattle.std.specs.Ordering.{is_le, is_ge}
use Rattle.std.specs.Prelude.{nat_le}
use Rattle.std.proofs.lemmas.Bool.Decides.{nat_tests}
use Rattle.cds_frac.specs.Fraction.{Fraction, lowest_terms}
use Rattle.cds_frac.specs.FractionOrder.{ratio_cmp}
use Rattle.cds_frac.specs.FractionLaws.{times_right_comm, int_cmp-times}
use Rattle.cds_frac.proofs.LowestTerms.{IsReduced-lowest_terms, lowest_terms-cross}

-- the right one of two numbers may be shortened
pub ratio_cmp-right : (z w : ℤ) (b d : ℕ) (g : Fraction) → 0 < d → g ≡ lowest_terms w d → ratio_cmp z b g.num g.den ≡ ratio_cmp z b w d
ratio_cmp-right z w b d g d_some g_is =
    let s : ℕ = g.den in
    let s_some : 0 < s = subst (λ h. 0 < h.den) (sym g_is) (IsReduced-lowest_terms w d d_some).0 in
    let value : g.num *ℤ pos d ≡ w *ℤ pos s = subst (λ h. h.num *ℤ pos d ≡ w *ℤ pos h.den) (sym g_is) (lowest_terms-cross w d d_some) in
    let right : (g.num *ℤ pos b) *ℤ pos d ≡ (w *ℤ pos b) *ℤ pos s =
    times_right_comm g.num b d ∙ ap (λ y. y *ℤ pos b) value ∙ times_right_comm w s b in
    sym (int_cmp-times (z *ℤ pos s) (g.num *ℤ pos b) d d_some)
    ∙ ap₂ int_cmp (times_right_comm z s d) right
    ∙ int_cmp-times (z *ℤ pos d) (w *ℤ pos b) s s_some

-- and so may the left one
pub ratio_cmp-left : (z w : ℤ) (b d : ℕ) (f : Fraction) → 0 < b → f ≡ lowest_terms z b → ratio_cmp f.num f.den w d ≡ ratio_cmp z b w d
ratio_cmp-left z w b d f b_some f_is =
    let q : ℕ = f.den in
    let q_some : 0 < q = subst (λ h. 0 < h.den) (sym f_is) (IsReduced-lowest_terms z b b_some).0 in
    let value : f.num *ℤ pos b ≡ z *ℤ pos q = subst (λ h. h.num *ℤ pos b ≡ z *ℤ pos h.den) (sym f_is) (lowest_terms-cross z b b_some) in
    let left : (f.num *ℤ pos d) *ℤ pos b ≡ (z *ℤ pos d) *ℤ pos q =
    times_right_comm f.num d b ∙ ap (λ y. y *ℤ pos d) value ∙ times_right_comm z q d in
    sym (int_cmp-times (f.num *ℤ pos d) (w *ℤ pos q) b b_some)
    ∙ ap₂ int_cmp left (times_right_comm w q b)
    ∙ int_cmp-times (z *ℤ pos d) (w *ℤ pos b) q q_some

-- numbers from 0 on are in order as natural ones
int_cmp-pos : (m n : ℕ) → int_cmp (pos m) (pos n) ≡ nat_cmp m n
int_cmp-pos m n = grind (arith, nat_tests)

-- how two fractions with natural parts stand to one another
pub ratio_cmp-nat : (a b c d : ℕ) (f g : Fraction) (o : Ordering) → 0 < b → 0 < d → f ≡ lowest_terms (pos a) b → g ≡ lowest_terms (pos c) d → o ≡ ratio_cmp f.num f.den g.num g.den → o ≡ nat_cmp (a * d) (c * b)
ratio_cmp-nat a b c d f g o b_some d_some f_is g_is o_is =
    o_is ∙ ratio_cmp-left (pos a) g.num b g.den f b_some f_is ∙ ratio_cmp-right (pos a) (pos c) b d g d_some g_is ∙ int_cmp-pos (a * d) (c * b)

pub is_le-nat_cmp : (m n : ℕ) → is_le (nat_cmp m n) ≡ nat_le m n
is_le-nat_cmp m n = grind (arith, nat_tests)

pub is_ge-nat_cmp : (m n : ℕ) → is_ge (nat_cmp m n) ≡ nat_le n m
is_ge-nat_cmp m n = grind (arith, nat_tests)
