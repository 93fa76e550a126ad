-- A coefficient of determination by comparing two fractions, and the greatest one that is reached.
use Rattle.std.proofs.Common.{◌≡◌, ℕ, ◌-◌, ◌*◌, ◌<◌, ◌≤◌, Bool, true, false, not, cond, eqb, ltb, leb, List, length, Ok, Err, ℤ, pos, ◌*ℤ◌, int_cmp, Ordering, refl, sym, ap, ap₂, ◌∙◌, subst, arith, mul-pos, inl, inr}
use Rattle.std.proofs.Math.Nat.{mul-le-mul, mul-le-mul_right}
use Rattle.std.proofs.lemmas.Bool.{lt-ltb, le-ltb, ltb-true, le-leb, leb-true, cases_lt}
use Rattle.std.proofs.lemmas.Bool.Decides.{nat_tests}
use Rattle.cds_base.specs.Search.{greatest, PassesFromBelow}
use Rattle.cds_base.specs.declared.peak.Missing.TheVariants.{TooFew, NotRising}
use Rattle.cds_frac.specs.Fraction.{Fraction, lowest_terms}
use Rattle.std.specs.Ordering.{ordering_index}
use Rattle.cds_frac.specs.FractionOrder.{ratio_cmp}
use Rattle.cds_frac.specs.FractionLaws.{times-times, int_cmp-times}
use Rattle.cds_frac.proofs.LowestTerms.{IsReduced-lowest_terms, lowest_terms-cross}
use Rattle.cds_calib.specs.declared.point.Point.{Point}
use Rattle.cds_calib.specs.declared.determination.Spread.{Spread}
use Rattle.cds_calib.specs.Points.{sum_x, sum_y, sum_xy}
use Rattle.cds_calib.specs.Line.{differ, corrected_xx, corrected_yy, corrected_xy}
use Rattle.cds_calib.specs.Determination.{explained, total, if_rising, determination_of, IsDetermination}
use Rattle.cds_calib.specs.Spread.{spread_of, reaches as spread_reaches}
use Rattle.cds_calib.proofs.Squares.{gap}
use Rattle.cds_calib.proofs.Spread.{schwarz}
use Rattle.cds_calib.proofs.LineLaws.{if_true, if_false, differ-true, differ-false}

-- ---- fractions

regroup : (z : ℤ) (a k c l : ℕ) → a * k ≡ c * l → (z *ℤ pos a) *ℤ pos k ≡ (z *ℤ pos c) *ℤ pos l
regroup z a k c l e = times-times z a k ∙ ap (λ n. z *ℤ pos n) e ∙ sym (times-times z c l)

-- two fractions in lowest terms stand to one another as they do before
pub ratio_cmp-lowest_terms : (z w : ℤ) (b d : ℕ) (f g : Fraction) → 0 < b → 0 < d → f ≡ lowest_terms z b → g ≡ lowest_terms w d → ratio_cmp f.num f.den g.num g.den ≡ ratio_cmp z b w d
ratio_cmp-lowest_terms z w b d f g b_some d_some f_is g_is =
    let q : ℕ = f.den in
    let s : ℕ = g.den in
    let q_some : 0 < q = subst (λ h. 0 < h.den) (sym f_is) (IsReduced-lowest_terms z b b_some).0 in
    let s_some : 0 < s = subst (λ h. 0 < h.den) (sym g_is) (IsReduced-lowest_terms w d d_some).0 in
    let f_value : f.num *ℤ pos b ≡ z *ℤ pos q = subst (λ h. h.num *ℤ pos b ≡ z *ℤ pos h.den) (sym f_is) (lowest_terms-cross z b b_some) in
    let g_value : g.num *ℤ pos d ≡ w *ℤ pos s = subst (λ h. h.num *ℤ pos d ≡ w *ℤ pos h.den) (sym g_is) (lowest_terms-cross w d d_some) in
    let left : (f.num *ℤ pos s) *ℤ pos (b * d) ≡ (z *ℤ pos d) *ℤ pos (q * s) =
    regroup f.num s (b * d) b (d * s) (omega arith) ∙ ap (λ y. y *ℤ pos (d * s)) f_value ∙ regroup z q (d * s) d (q * s) (omega arith) in
    let right : (g.num *ℤ pos q) *ℤ pos (b * d) ≡ (w *ℤ pos b) *ℤ pos (q * s) =
    regroup g.num q (b * d) d (b * q) (omega arith) ∙ ap (λ y. y *ℤ pos (b * q)) g_value ∙ regroup w s (b * q) b (q * s) (omega arith) in
    sym (int_cmp-times (f.num *ℤ pos s) (g.num *ℤ pos q) (b * d) (mul-pos b_some d_some))
    ∙ ap₂ int_cmp left right
    ∙ int_cmp-times (z *ℤ pos d) (w *ℤ pos b) (q * s) (mul-pos q_some s_some)

-- ---- points whose line rises

pub if_rising-few : {A : Type 0} (points : List Point) (a : A) (d : ℕ) → d ≡ corrected_xx points → d ≡ 0 → Err TooFew ≡ if_rising points a
if_rising-few points a d is none = if_false (differ points) (cond (ltb 0 (corrected_xy points)) (Ok a) (Err NotRising)) (Err TooFew) (differ-false points d is none)

pub if_rising-flat : {A : Type 0} (points : List Point) (a : A) (d s : ℕ) → d ≡ corrected_xx points → (d ≡ 0 → ⊥) → s ≡ corrected_xy points → s ≡ 0 → Err NotRising ≡ if_rising points a
if_rising-flat points a d s d_is some s_is none =
    if_false (ltb 0 (corrected_xy points)) (Ok a) (Err NotRising) (le-ltb 0 (corrected_xy points) (omega arith))
    ∙ if_true (differ points) (cond (ltb 0 (corrected_xy points)) (Ok a) (Err NotRising)) (Err TooFew) (differ-true points d d_is some)

if_rising-some : {A : Type 0} (points : List Point) (a : A) (d s : ℕ) → d ≡ corrected_xx points → (d ≡ 0 → ⊥) → s ≡ corrected_xy points → (s ≡ 0 → ⊥) → Ok a ≡ if_rising points a
if_rising-some points a d s d_is d_some s_is s_some =
    if_true (ltb 0 (corrected_xy points)) (Ok a) (Err NotRising) (lt-ltb 0 (corrected_xy points) (let h : 0 < s = omega arith in omega arith))
    ∙ if_true (differ points) (cond (ltb 0 (corrected_xy points)) (Ok a) (Err NotRising)) (Err TooFew) (differ-true points d d_is d_some)

spread_eq : (s t : Spread) → s.xx ≡ t.xx → s.yy ≡ t.yy → s.xy ≡ t.xy → s ≡ t
spread_eq s t xx yy xy = by_parts s.xx t.xx s.yy t.yy s.xy t.xy xx yy xy
  where
    by_parts : (a a' b b' c c' : ℕ) → a ≡ a' → b ≡ b' → c ≡ c' → (let l : Spread = record { xx = a; yy = b; xy = c } in let r : Spread = record { xx = a'; yy = b'; xy = c' } in l ≡ r)
    by_parts a a' b b' c c' p q r = cc

pub spread-some : (points : List Point) (xx yy xy : ℕ) → xx ≡ corrected_xx points → (xx ≡ 0 → ⊥) → xy ≡ corrected_xy points → (xy ≡ 0 → ⊥) → yy ≡ corrected_yy points → Ok (record { xx = xx; yy = yy; xy = xy }) ≡ if_rising points (spread_of points)
spread-some points xx yy xy xx_is xx_some xy_is xy_some yy_is =
    ap Ok (spread_eq (record { xx = xx; yy = yy; xy = xy }) (spread_of points) xx_is yy_is xy_is) ∙ if_rising-some points (spread_of points) xx xy xx_is xx_some xy_is xy_some

-- ---- the greatest

-- a line that rises does so whatever is asked of it
pub if_rising-swap : {A B : Type 0} (points : List Point) (a s : A) (b : B) → Ok s ≡ if_rising points a → Ok b ≡ if_rising points b
if_rising-swap {A} {B} points a s b is = go (differ points) (ltb 0 (corrected_xy points)) is
  where
    go : (d r : Bool) → Ok s ≡ cond d (cond r (Ok a) (Err NotRising)) (Err TooFew) → Ok b ≡ cond d (cond r (Ok b) (Err NotRising)) (Err TooFew)
    go true true e = refl
    go true false e = cc
    go false r e = cc

pub if_rising-ok : {A : Type 0} (points : List Point) (a s : A) → Ok s ≡ if_rising points a → (s ≡ a) × (0 < corrected_xy points)
if_rising-ok {A} points a s is = go (differ points) (ltb 0 (corrected_xy points)) refl is
  where
    go : (d r : Bool) → ltb 0 (corrected_xy points) ≡ r → Ok s ≡ cond d (cond r (Ok a) (Err NotRising)) (Err TooFew) → (s ≡ a) × (0 < corrected_xy points)
    go true true h e = (cc, ltb-true 0 (corrected_xy points) h)
    go true false h e = cc
    go false r h e = cc

-- the square of n Sxy - Sx Sy is at most the product of the other two
pub schwarz_total : (points : List Point) → corrected_xy points * corrected_xy points ≤ total points
schwarz_total points =
    let high : ℕ = length points * sum_xy points in
    let low : ℕ = sum_x points * sum_y points in
    let apart : high - low ≤ gap high low = omega arith in
    let square : (high - low) * (high - low) ≤ gap high low * gap high low = mul-le-mul {n₁ = high - low} {m₁ = high - low} {n₂ = gap high low} {m₂ = gap high low} apart apart in
    let whole : gap high low * gap high low ≤ total points = schwarz (λ p. p.amount) (λ p. p.area) points in
    omega arith

-- what r^2 reaches it reaches from 0 on
pub PassesFromBelow-reaches : (s : Spread) → PassesFromBelow (spread_reaches s)
PassesFromBelow-reaches s = record {
  start = le-leb (0 * (s.xx * s.yy)) (10000 * (s.xy * s.xy)) (omega arith);
  below = λ j k le here.
      let reached = leb-true (k * (s.xx * s.yy)) (10000 * (s.xy * s.xy)) here in
      let less : j * (s.xx * s.yy) ≤ k * (s.xx * s.yy) = mul-le-mul_right {m = j} {n = k} (s.xx * s.yy) le in
      le-leb (j * (s.xx * s.yy)) (10000 * (s.xy * s.xy)) (omega arith);
}

-- no r^2 reaches more than 1
reached-most : (points : List Point) → 0 < corrected_xy points → (k : ℕ) → k * total points ≤ explained points → k ≤ 10000
reached-most points rises k here =
    elim (cases_lt 10000 k) [
      | inl lt ↦
          let most = schwarz_total points in
          let some : 0 < corrected_xy points * corrected_xy points = mul-pos rises rises in
          let more : 10001 * total points ≤ k * total points = mul-le-mul_right {m = 10001} {n = k} (total points) (omega arith) in
          absurd (omega arith)
      | inr ge ↦ ge
    ]

-- the greatest number that the kept sums of the points reach
pub determination-is : (points : List Point) (s : Spread) (q : ℕ) → Ok s ≡ if_rising points (spread_of points) → q ≡ greatest (spread_reaches s) 10000 → Ok q ≡ determination_of points
determination-is points s q is q_is =
    let same = (if_rising-ok points (spread_of points) s is).0 in
    ap Ok (q_is ∙ ap (λ t. greatest (spread_reaches t) 10000) same) ∙ if_rising-swap points (spread_of points) s _ is

-- it is the greatest at all
pub IsDetermination-is : (points : List Point) (s : Spread) (q : ℕ) → Ok s ≡ if_rising points (spread_of points) → spread_reaches s q ≡ true
    → ((k : ℕ) → k ≤ 10000 → spread_reaches s k ≡ true → k ≤ q) → IsDetermination points q
IsDetermination-is points s q is here last =
    let own = if_rising-ok points (spread_of points) s is in
    record {
      reached = leb-true (q * total points) (explained points) (subst (λ t. spread_reaches t q ≡ true) own.0 here);
      greatest = λ k reached. last k (reached-most points own.1 k reached) (subst (λ t. spread_reaches t k ≡ true) (sym own.0) (le-leb (k * total points) (explained points) reached));
    }

-- an order that isn't Less
not_less : (m n : ℕ) → not (eqb (ordering_index (int_cmp (pos m) (pos n))) 0) ≡ leb n m
not_less m n = grind (arith, nat_tests)

-- 10000 xy xy is at least q xx yy where 10000 xy / (xx q) is at least yy / xy
pub reaches_is : (q xx yy xy : ℕ) (f g : Fraction) (o : Ordering) → 0 < xx → 0 < xy → (q ≡ 0 → ⊥) → f ≡ lowest_terms (pos (10000 * xy)) (xx * q) → g ≡ lowest_terms (pos yy) xy → o ≡ ratio_cmp f.num f.den g.num g.den → not (eqb (ordering_index o) 0) ≡ leb (q * (xx * yy)) (10000 * (xy * xy))
reaches_is q xx yy xy f g o xx_some xy_some q_some f_is g_is o_is =
    let q_pos : 0 < q = omega arith in
    let order : o ≡ int_cmp (pos (10000 * xy * xy)) (pos (yy * (xx * q))) = o_is ∙ ratio_cmp-lowest_terms (pos (10000 * xy)) (pos yy) (xx * q) xy f g (mul-pos xx_some q_pos) xy_some f_is g_is in
    let low : yy * (xx * q) ≡ q * (xx * yy) = omega arith in
    let high : 10000 * xy * xy ≡ 10000 * (xy * xy) = omega arith in
    ap (λ p. not (eqb (ordering_index p) 0)) order ∙ not_less (10000 * xy * xy) (yy * (xx * q)) ∙ ap₂ leb low high
