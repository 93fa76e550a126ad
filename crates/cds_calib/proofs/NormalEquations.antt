-- The lines meet the normal equations of least squares.
use Rattle.std.proofs.Common.{◌≡◌, ℕ, zero, suc, ◌+◌, ◌-◌, ◌*◌, ◌/◌, ◌<◌, Bool, true, false, cond, ltb, List, [], ◌∷◌, length, Ok, Err, ℤ, pos, ◌+ℤ◌, ◌-ℤ◌, ◌*ℤ◌, refl, ap, ◌∙◌, subst, arith}
use Rattle.std.specs.List.{sum_by, All}
use Rattle.std.proofs.Math.IntN.{*ℤ-zero, *ℤ_comm, suc_ℤ-*ℤ}
use Rattle.std.proofs.lemmas.Bool.{ltb-true}
use Rattle.std.proofs.lemmas.Int.{ints}
use Rattle.std.proofs.lemmas.List.Sums.{sum_by-cons}
use Rattle.std.proofs.lemmas.List.Elements.{All-head, All-tail}
use Rattle.cds_base.specs.declared.peak.Missing.{Missing}
use Rattle.cds_base.specs.declared.peak.Missing.TheVariants.{TooFew, NotRising, Unfit}
use Rattle.cds_rules.specs.declared.method.Weight.TheVariants.{Equal, Origin, Inverse}
use Rattle.cds_calib.specs.declared.point.Point.{Point}
use Rattle.cds_calib.specs.Points.{IsCalibration, sum_x, sum_y, sum_xx, sum_xy}
use Rattle.cds_calib.specs.Line.{differ, corrected_xx, corrected_xy}
use Rattle.cds_calib.specs.Fit.{CalibrationLine, rising, equal_line, origin_line, inverse_line, weights_fit, common_multiple, weighted_divisor, sum_w, sum_wy, fit_of}
use Rattle.cds_calib.specs.LeastSquares.{MeetsNormalEquations}
use Rattle.cds_calib.proofs.LeastMultiple.{Shares-common_multiple}
use Rattle.cds_calib.proofs.Spread.{square_le}
use Rattle.cds_calib.proofs.Weighted.{Shares, weight-times, weighted_le}

-- a line that was answered, and that it rises
answered : (few fits : Bool) (whole line : CalibrationLine) (few_cause fits_cause : Missing) → cond few (cond fits (rising whole) (Err fits_cause)) (Err few_cause) ≡ Ok line → (whole ≡ line) × (0 < whole.slope)
answered few fits whole line few_cause fits_cause is = go few fits (ltb 0 whole.slope) refl is
  where
    go : (a b r : Bool) → ltb 0 whole.slope ≡ r → cond a (cond b (cond r (Ok whole) (Err NotRising)) (Err fits_cause)) (Err few_cause) ≡ Ok line → (whole ≡ line) × (0 < whole.slope)
    go true true true h e = (cc, ltb-true 0 whole.slope h)
    go true true false h e = cc
    go true false r h e = cc
    go false b r h e = cc

-- a difference, so many times
minus-times : (u v k : ℕ) → (pos u -ℤ pos v) *ℤ pos k ≡ pos (u * k) -ℤ pos (v * k)
minus-times u v zero = *ℤ-zero (pos u -ℤ pos v) ∙ omega (arith, ints)
minus-times u v (suc k) =
    let before : (pos u -ℤ pos v) *ℤ pos k ≡ pos (u * k) -ℤ pos (v * k) = minus-times u v k in
    *ℤ_comm (pos u -ℤ pos v) (pos (suc k))
    ∙ suc_ℤ-*ℤ (pos k) (pos u -ℤ pos v)
    ∙ ap (λ z. z +ℤ (pos u -ℤ pos v)) (*ℤ_comm (pos k) (pos u -ℤ pos v) ∙ before)
    ∙ added (u * k) (v * k) u v (u * suc k) (v * suc k) (omega arith) (omega arith)
  where
    added : (a b c d e f : ℕ) → e ≡ a + c → f ≡ b + d → (pos a -ℤ pos b) +ℤ (pos c -ℤ pos d) ≡ pos e -ℤ pos f
    added a b c d e f p q = omega (arith, ints)

-- an equation of whole numbers from one of natural numbers
from_naturals : (u v k s x d y : ℕ) → u * k + s * x ≡ d * y + v * k → ((pos u -ℤ pos v) *ℤ pos k) +ℤ (pos s *ℤ pos x) ≡ pos d *ℤ pos y
from_naturals u v k s x d y e = rw (minus-times u v k) (omega (arith, ints, e))

-- a sum with the weight 1
sum_by-once : (g : Point → ℕ) (points : List Point) → sum_by (λ p. 1 * g p) points ≡ sum_by g points
sum_by-once g [] = refl
sum_by-once g (p ∷ points) = rw (sum_by-cons (λ q. 1 * g q) p points, sum_by-cons g p points) (omega (arith, sum_by-once g points))

-- the sum of ones is their number
sum_by-ones : (points : List Point) → sum_by (λ p. 1) points ≡ length points
sum_by-ones [] = refl
sum_by-ones (p ∷ points) = rw (sum_by-cons (λ q. 1) p points) (omega (arith, sum_by-ones points))

-- ---- all points alike

equal_level : (n x y xx xy d s : ℕ) → d + x * x ≡ n * xx → s + x * y ≡ n * xy → (y * xx) * n + s * x ≡ d * y + (x * xy) * n
equal_level n x y xx xy d s divisor slope =
    let one : (d + x * x) * y ≡ (n * xx) * y = ap (λ k. k * y) divisor in
    let two : (s + x * y) * x ≡ (n * xy) * x = ap (λ k. k * x) slope in
    omega (arith, one, two)

equal_rise : (n x y xx xy d s : ℕ) → d + x * x ≡ n * xx → s + x * y ≡ n * xy → (y * xx) * x + s * xx ≡ d * xy + (x * xy) * x
equal_rise n x y xx xy d s divisor slope =
    let one : (d + x * x) * xy ≡ (n * xx) * xy = ap (λ k. k * xy) divisor in
    let two : (s + x * y) * xx ≡ (n * xy) * xx = ap (λ k. k * xx) slope in
    omega (arith, one, two)

equal_meets : (points : List Point) → 0 < corrected_xy points → MeetsNormalEquations (λ p. 1) points (equal_line points)
equal_meets points rises =
    let n = length points in
    let divisor : corrected_xx points + sum_x points * sum_x points ≡ n * sum_xx points = let le = square_le (λ p. p.amount) points in omega arith in
    let slope : corrected_xy points + sum_x points * sum_y points ≡ n * sum_xy points = omega arith in
    record {
      level = rw (sum_by-ones points, sum_by-once (λ p. p.amount) points, sum_by-once (λ p. p.area) points)
          (from_naturals _ _ _ _ _ _ _ (equal_level n (sum_x points) (sum_y points) (sum_xx points) (sum_xy points) _ _ divisor slope));
      rise = rw (sum_by-once (λ p. p.amount) points, sum_by-once (λ p. p.amount * p.amount) points, sum_by-once (λ p. p.amount * p.area) points)
          (from_naturals _ _ _ _ _ _ _ (equal_rise n (sum_x points) (sum_y points) (sum_xx points) (sum_xy points) _ _ divisor slope));
    }

pub equal-meets : (points : List Point) (line : CalibrationLine) → fit_of Equal points ≡ Ok line → MeetsNormalEquations (λ p. 1) points line
equal-meets points line is =
    let own = answered (differ points) true (equal_line points) line TooFew Unfit is in
    subst (MeetsNormalEquations (λ p. 1) points) own.0 (equal_meets points own.1)

-- ---- through the origin

pub origin-meets : (points : List Point) (line : CalibrationLine) → fit_of Origin points ≡ Ok line → line.slope * sum_xx points ≡ line.divisor * sum_xy points
origin-meets points line is =
    let own = answered (ltb 0 (length points)) true (origin_line points) line TooFew Unfit is in
    subst (λ l. l.slope * sum_xx points ≡ l.divisor * sum_xy points) own.0 (omega arith)

-- ---- weighted by the inverse of the amount

-- a weight times its amount is the multiple, in a sum
sum_by-shared : (m : ℕ) (g : Point → ℕ) (points : List Point) → All (Shares m) points → sum_by (λ p. m / p.amount * (p.amount * g p)) points ≡ m * sum_by g points
sum_by-shared m g [] all = omega arith
sum_by-shared m g (p ∷ points) all =
    let whole : m / p.amount * p.amount ≡ m = weight-times m p (All-head (Shares m) p points all) in
    let here : (m / p.amount * p.amount) * g p ≡ m * g p = ap (λ k. k * g p) whole in
    rw (sum_by-cons (λ q. m / q.amount * (q.amount * g q)) p points, sum_by-cons g p points) (omega (arith, here, sum_by-shared m g points (All-tail (Shares m) p points all)))

sum_by-weights : (m : ℕ) (points : List Point) → All (Shares m) points → sum_by (λ p. m / p.amount * p.amount) points ≡ length points * m
sum_by-weights m [] all = omega arith
sum_by-weights m (p ∷ points) all =
    let whole : m / p.amount * p.amount ≡ m = weight-times m p (All-head (Shares m) p points all) in
    rw (sum_by-cons (λ q. m / q.amount * q.amount) p points) (omega (arith, whole, sum_by-weights m points (All-tail (Shares m) p points all)))

inverse_level : (n m x y w wy d s : ℕ) → d + n * n * m ≡ w * x → s + n * wy ≡ w * y → (x * wy) * w + s * (n * m) ≡ d * wy + (n * m * y) * w
inverse_level n m x y w wy d s divisor slope =
    let one : (d + n * n * m) * wy ≡ (w * x) * wy = ap (λ k. k * wy) divisor in
    let two : (s + n * wy) * (n * m) ≡ (w * y) * (n * m) = ap (λ k. k * (n * m)) slope in
    omega (arith, one, two)

inverse_rise : (n m x y w wy d s : ℕ) → d + n * n * m ≡ w * x → s + n * wy ≡ w * y → (x * wy) * (n * m) + s * (m * x) ≡ d * (m * y) + (n * m * y) * (n * m)
inverse_rise n m x y w wy d s divisor slope =
    let one : (d + n * n * m) * (m * y) ≡ (w * x) * (m * y) = ap (λ k. k * (m * y)) divisor in
    let two : (s + n * wy) * (m * x) ≡ (w * y) * (m * x) = ap (λ k. k * (m * x)) slope in
    omega (arith, one, two)

inverse_meets : (m : ℕ) (points : List Point) → All (Shares m) points → 0 < (inverse_line m points).slope → MeetsNormalEquations (λ p. m / p.amount) points (inverse_line m points)
inverse_meets m points all rises =
    let n = length points in
    let divisor : weighted_divisor m points + n * n * m ≡ sum_w m points * sum_x points = let le = weighted_le m points all in omega arith in
    let slope : (inverse_line m points).slope + n * sum_wy m points ≡ sum_w m points * sum_y points = omega arith in
    record {
      level = rw (sum_by-weights m points all)
          (from_naturals _ _ _ _ _ _ _ (inverse_level n m (sum_x points) (sum_y points) (sum_w m points) (sum_wy m points) _ _ divisor slope));
      rise = rw (sum_by-weights m points all, sum_by-shared m (λ p. p.amount) points all, sum_by-shared m (λ p. p.area) points all)
          (from_naturals _ _ _ _ _ _ _ (inverse_rise n m (sum_x points) (sum_y points) (sum_w m points) (sum_wy m points) _ _ divisor slope));
    }

pub inverse-meets : (points : List Point) (line : CalibrationLine) → IsCalibration points → fit_of Inverse points ≡ Ok line → MeetsNormalEquations (λ p. common_multiple points / p.amount) points line
inverse-meets points line are is =
    let m = common_multiple points in
    let own = answered (differ points) (weights_fit m points) (inverse_line m points) line TooFew Unfit is in
    subst (MeetsNormalEquations (λ p. m / p.amount) points) own.0 (inverse_meets m points (Shares-common_multiple points m are.within refl).1 own.1)
