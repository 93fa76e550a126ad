-- Each answer of a line by the facts that lead to it, and the limits of its numbers.
use Rattle.std.proofs.Common.{◌≡◌, ℕ, ◌-◌, ◌*◌, ◌^◌, ◌<◌, ◌≤◌, Bool, true, false, ◌&&◌, cond, ltb, List, [], ◌∷◌, length, Result, Ok, Err, ℤ, pos, ◌-ℤ◌, unsigned_abs, refl, sym, ap, ap₂, ◌∙◌, subst, arith, mul-pos}
use Rattle.std.proofs.Math.Nat.{mul-le-mul}
use Rattle.std.proofs.lemmas.Nat.{mul-lt}
use Rattle.std.proofs.lemmas.Bool.{lt-ltb, le-ltb}
use Rattle.std.proofs.lemmas.Int.{ints}
use Rattle.std.proofs.lemmas.List.Sums.{get_or-le-sum_by}
use Rattle.std.proofs.lemmas.List.Elements.{All-get_or}
use Rattle.cds_base.specs.declared.peak.Missing.{Missing}
use Rattle.cds_base.specs.declared.peak.Missing.TheVariants.{TooFew, NotRising, Unfit}
use Rattle.cds_rules.specs.declared.method.Weight.{Weight}
use Rattle.cds_rules.specs.declared.method.Weight.TheVariants.{Equal, Origin, Inverse}
use Rattle.cds_calib.specs.declared.point.Point.{Point}
use Rattle.cds_calib.specs.declared.sums.Sums.{Sums}
use Rattle.cds_calib.specs.Points.{IsPoint, IsCalibration, sum_x, sum_y, sum_xx, sum_xy}
use Rattle.cds_calib.specs.Sums.{sums_of, IsSmall}
use Rattle.cds_calib.specs.Line.{differ, corrected_xx, corrected_xy}
use Rattle.cds_calib.specs.Fit.{CalibrationLine, rising, equal_line, inverse_line, weights_fit, common_multiple, weighted_divisor, sum_w, sum_wy, fit_of, IsFit}
use Rattle.std.specs.List.{All}
use Rattle.cds_calib.proofs.Differ.{differ-is}
use Rattle.cds_calib.proofs.LeastMultiple.{Shares-common_multiple}
use Rattle.cds_calib.proofs.Weighted.{Shares, weighted_le, weighted_divisor_pos}

pub if_false : {A : Type 0} (b : Bool) (x y : A) → b ≡ false → y ≡ cond b x y
if_false b x y e = ap (λ c. cond c x y) (sym e)

pub if_true : {A : Type 0} (b : Bool) (x y : A) → b ≡ true → x ≡ cond b x y
if_true b x y e = ap (λ c. cond c x y) (sym e)

-- no two amounts differ where the divisor is 0
pub differ-false : (points : List Point) (d : ℕ) → d ≡ corrected_xx points → d ≡ 0 → differ points ≡ false
differ-false points d is none = differ-is points ∙ le-ltb 0 (corrected_xx points) (omega arith)

-- two amounts differ where the divisor isn't 0
pub differ-true : (points : List Point) (d : ℕ) → d ≡ corrected_xx points → (d ≡ 0 → ⊥) → differ points ≡ true
differ-true points d is some = differ-is points ∙ lt-ltb 0 (corrected_xx points) (let h : 0 < d = omega arith in omega arith)

-- a line with a slope of 0 doesn't rise
pub rising-flat : (line : CalibrationLine) (s : ℕ) → s ≡ line.slope → s ≡ 0 → Err NotRising ≡ rising line
rising-flat line s is none = if_false (ltb 0 line.slope) (Ok line) (Err NotRising) (le-ltb 0 line.slope (omega arith))

-- a line with another slope rises
pub rising-some : (line : CalibrationLine) (s : ℕ) → s ≡ line.slope → (s ≡ 0 → ⊥) → Ok line ≡ rising line
rising-some line s is some = if_true (ltb 0 line.slope) (Ok line) (Err NotRising) (lt-ltb 0 line.slope (let h : 0 < s = omega arith in omega arith))

-- a line by its parts
abbrev pub line_of : Weight → ℕ → ℕ → ℤ → CalibrationLine
line_of weight d s i = record { weight = weight; divisor = d; slope = s; intercept = i }

line_eq : (weight : Weight) (d d' s s' : ℕ) (i i' : ℤ) → d ≡ d' → s ≡ s' → i ≡ i' → line_of weight d s i ≡ line_of weight d' s' i'
line_eq weight d d' s s' i i' a b c = cc

-- the difference of two numbers below a limit is below it, sign apart
pub abs_difference : (a b n : ℕ) → a < n → b < n → unsigned_abs (pos a -ℤ pos b) < n
abs_difference a b n p q = omega (arith, ints)

-- ---- all points alike

pub equal-few : (points : List Point) (d : ℕ) → d ≡ corrected_xx points → d ≡ 0 → Err TooFew ≡ fit_of Equal points
equal-few points d is none = if_false (differ points) (rising (equal_line points)) (Err TooFew) (differ-false points d is none)

pub equal-flat : (points : List Point) (d s : ℕ) → d ≡ corrected_xx points → (d ≡ 0 → ⊥) → s ≡ corrected_xy points → s ≡ 0 → Err NotRising ≡ fit_of Equal points
equal-flat points d s d_is d_some s_is none =
    rising-flat (equal_line points) s s_is none ∙ if_true (differ points) (rising (equal_line points)) (Err TooFew) (differ-true points d d_is d_some)

pub equal-line : (points : List Point) (d s : ℕ) (i : ℤ) (t : Sums) → d ≡ corrected_xx points → (d ≡ 0 → ⊥) → s ≡ corrected_xy points → (s ≡ 0 → ⊥) → t ≡ sums_of points → i ≡ (pos (t.y * t.xx) -ℤ pos (t.x * t.xy)) → Ok (line_of Equal d s i) ≡ fit_of Equal points
equal-line points d s i t d_is d_some s_is s_some sums i_is =
    let here : i ≡ (pos (sum_y points * sum_xx points) -ℤ pos (sum_x points * sum_xy points)) = i_is ∙ ap (λ u. pos (u.y * u.xx) -ℤ pos (u.x * u.xy)) sums in
    ap Ok (line_eq Equal d (corrected_xx points) s (corrected_xy points) i _ d_is s_is here)
    ∙ rising-some (equal_line points) s s_is s_some
    ∙ if_true (differ points) (rising (equal_line points)) (Err TooFew) (differ-true points d d_is d_some)

pub IsFit-equal : (d s : ℕ) (i : ℤ) (t : Sums) → d < 2 ^ 72 → (d ≡ 0 → ⊥) → s < 2 ^ 94 → (s ≡ 0 → ⊥) → IsSmall t → i ≡ (pos (t.y * t.xx) -ℤ pos (t.x * t.xy)) → IsFit (line_of Equal d s i)
IsFit-equal d s i t d_below d_some s_below s_some small i_is = record {
  divisor_some = omega arith;
  slope_some = omega arith;
  divisor_fits = d_below;
  slope_fits = s_below;
  intercept_fits = subst (λ z. unsigned_abs z < 2 ^ 124) (sym i_is) (abs_difference (t.y * t.xx) (t.x * t.xy) (2 ^ 124)
      (mul-lt t.y t.xx (2 ^ 58) (2 ^ 66) small.y small.xx)
      (mul-lt t.x t.xy (2 ^ 36) (2 ^ 88) small.x small.xy));
}

-- ---- through the origin

sum_xx_pos : (points : List Point) → IsCalibration points → (points ≡ [] → ⊥) → 0 < sum_xx points
sum_xx_pos [] is some = absurd (some refl)
sum_xx_pos (p ∷ points) is some =
    let within : 0 < length (p ∷ points) = omega arith in
    let here : IsPoint p = All-get_or IsPoint (p ∷ points) 0 p within is.within in
    let least : 0 < p.amount * p.amount = mul-pos here.some here.some in
    let le : p.amount * p.amount ≤ sum_xx (p ∷ points) = get_or-le-sum_by (λ q. q.amount * q.amount) (p ∷ points) 0 p within in
    omega arith

pub IsFit-origin : (points : List Point) (t : Sums) → IsCalibration points → (points ≡ [] → ⊥) → t ≡ sums_of points → IsSmall t → (t.xy ≡ 0 → ⊥) → IsFit (line_of Origin t.xx t.xy (pos 0))
IsFit-origin points t is some sums small rises = record {
  divisor_some = subst (λ u. 0 < u.xx) (sym sums) (sum_xx_pos points is some);
  slope_some = omega arith;
  divisor_fits = small.xx;
  slope_fits = small.xy;
  intercept_fits = omega arith;
}

-- ---- weighted by the inverse of the amount

-- the answer with weights M / x where two amounts differ
abbrev pub weighted_answer : List Point → ℕ → Result CalibrationLine Missing
weighted_answer points m = cond (weights_fit m points) (rising (inverse_line m points)) (Err Unfit)

pub inverse-few : (points : List Point) (d : ℕ) → d ≡ corrected_xx points → d ≡ 0 → Err TooFew ≡ fit_of Inverse points
inverse-few points d is none =
    if_false (differ points) (cond (weights_fit (common_multiple points) points) (rising (inverse_line (common_multiple points) points)) (Err Unfit)) (Err TooFew) (differ-false points d is none)

-- with two amounts that differ
pub inverse-two : (points : List Point) (d : ℕ) → d ≡ corrected_xx points → (d ≡ 0 → ⊥) → cond (weights_fit (common_multiple points) points) (rising (inverse_line (common_multiple points) points)) (Err Unfit) ≡ fit_of Inverse points
inverse-two points d is some =
    if_true (differ points) (cond (weights_fit (common_multiple points) points) (rising (inverse_line (common_multiple points) points)) (Err Unfit)) (Err TooFew) (differ-true points d is some)

-- a common multiple past its limit
pub weights_fit-past : (m : ℕ) (points : List Point) → (m < 2 ^ 60 → ⊥) → Err Unfit ≡ cond (weights_fit m points) (rising (inverse_line m points)) (Err Unfit)
weights_fit-past m points past =
    if_false (weights_fit m points) (rising (inverse_line m points)) (Err Unfit) (ap (λ b. b && ltb (sum_x points * sum_wy m points) (2 ^ 126)) (le-ltb m (2 ^ 60) (omega arith)))

-- what the code has at hand: the count, the multiple, and the sums
pub record Parts (points : List Point) (m n k w wy x y : ℕ) : Type 0 where
  pub shares : (0 < m) × All (Shares m) points
  pub count : n ≡ length points
  pub multiple : k ≡ m
  pub weights : w ≡ sum_w m points
  pub weighted : wy ≡ sum_wy m points
  pub amounts : x ≡ sum_x points
  pub areas : y ≡ sum_y points

-- the parts from what the code's calls ensure, of the points and of the same points as a slice
pub Parts-from_calls : (points items : List Point) (m n k w wy : ℕ) (t : Sums) → IsCalibration points → m ≡ common_multiple points → n ≡ length points → k ≡ m → items ≡ points → w ≡ sum_w m items → wy ≡ sum_wy m items → t ≡ sums_of points → Parts points m n k w wy t.x t.y
Parts-from_calls points items m n k w wy t is multiple count same slice weights weighted sums = record {
  shares = Shares-common_multiple points m is.within multiple;
  count = count;
  multiple = same;
  weights = weights ∙ ap (sum_w m) slice;
  weighted = weighted ∙ ap (sum_wy m) slice;
  amounts = ap (λ u. u.x) sums;
  areas = ap (λ u. u.y) sums;
}

divisor_parts : (points : List Point) (m n k w wy x y : ℕ) → Parts points m n k w wy x y → (n * n * k ≡ length points * length points * m) × (w * x ≡ sum_w m points * sum_x points)
divisor_parts points m n k w wy x y is = (ap₂ (λ a b. a * a * b) is.count is.multiple, ap₂ (λ a b. a * b) is.weights is.amounts)

pub divisor_le : (points : List Point) (m n k w wy x y : ℕ) → Parts points m n k w wy x y → n * n * k ≤ w * x
divisor_le points m n k w wy x y is =
    let same = divisor_parts points m n k w wy x y is in
    let low = same.0 in
    let high = same.1 in
    let le = weighted_le m points is.shares.1 in
    omega arith

divisor_is : (points : List Point) (m n k w wy x y : ℕ) → Parts points m n k w wy x y → w * x - n * n * k ≡ weighted_divisor m points
divisor_is points m n k w wy x y is =
    let same = divisor_parts points m n k w wy x y is in ap₂ (λ a b. a - b) same.1 same.0

pub IsFit-inverse : (points : List Point) (m n k w wy x y s h : ℕ) (i : ℤ) → Parts points m n k w wy x y → differ points ≡ true → m < 2 ^ 60 → n ≤ 64 → w < 2 ^ 66 → x < 2 ^ 36 → y < 2 ^ 58 → s ≡ w * y - n * wy → (s ≡ 0 → ⊥) → h < 2 ^ 126 → i ≡ (pos h -ℤ pos (n * k * y)) → IsFit (line_of Inverse (w * x - n * n * k) s i)
IsFit-inverse points m n k w wy x y s h i is two below few w_below x_below y_below s_is some high i_is =
    let k_below : k < 2 ^ 60 = let e = is.multiple in omega arith in
    let product : w * x < 2 ^ 66 * 2 ^ 36 = mul-lt w x (2 ^ 66) (2 ^ 36) w_below x_below in
    let rise : w * y < 2 ^ 66 * 2 ^ 58 = mul-lt w y (2 ^ 66) (2 ^ 58) w_below y_below in
    let counted : n * k ≤ 64 * (2 ^ 60 - 1) = mul-le-mul {n₁ = n} {m₁ = k} {n₂ = 64} {m₂ = 2 ^ 60 - 1} few (omega arith) in
    let fall : (n * k) * y ≤ (64 * (2 ^ 60 - 1)) * (2 ^ 58 - 1) = mul-le-mul {n₁ = n * k} {m₁ = y} {n₂ = 64 * (2 ^ 60 - 1)} {m₂ = 2 ^ 58 - 1} counted (omega arith) in
    record {
      divisor_some = subst (λ d. 0 < d) (sym (divisor_is points m n k w wy x y is)) (weighted_divisor_pos m points is.shares.0 is.shares.1 two);
      slope_some = omega arith;
      divisor_fits = omega arith;
      slope_fits = omega arith;
      intercept_fits = subst (λ z. unsigned_abs z < 2 ^ 126) (sym i_is) (abs_difference h (n * k * y) (2 ^ 126) high (omega arith));
    }
