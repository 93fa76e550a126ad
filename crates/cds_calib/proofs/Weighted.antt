-- How the divisor of the weighted line grows with a further point, with the common multiple m of the amounts fixed.
use Rattle.std.proofs.Common.{◌≡◌, ℕ, zero, suc, ◌+◌, ◌-◌, ◌*◌, ◌/◌, ◌^◌, ◌<◌, ◌≤◌, Bool, true, false, not, ◌||◌, eqb, List, [], ◌∷◌, length, refl, subst, arith, inl, inr, mul-pos}
use Rattle.std.specs.List.{sum_by, list_any, All}
use Rattle.std.specs.Int.{◌∣◌}
use Rattle.std.proofs.Math.Nat.{div-mul_cancel, div-le_self, mul-le-mul, mul-le-mul_left, mul-lt-mul_of_pos_right, eq_of_mul-eq-mul_left}
use Rattle.std.proofs.lemmas.List.Sums.{sum_by-cons}
use Rattle.std.proofs.lemmas.List.Elements.{All-head, All-tail}
use Rattle.std.proofs.lemmas.Bool.{cases_lt, eqb-false, false≢true}
use Rattle.cds_calib.specs.declared.point.Point.{Point}
use Rattle.cds_calib.specs.Points.{IsCalibration, sum_x}
use Rattle.cds_calib.specs.Line.{differ}
use Rattle.cds_calib.specs.Fit.{sum_w, sum_wy, weighted_divisor}
use Rattle.cds_calib.proofs.Kept.{sum_by-few}
use Rattle.cds_calib.proofs.Squares.{gap, product_unlike}
use Rattle.cds_calib.proofs.Differ.{other_than}

-- the amount is at least 1 and divides the multiple
pub record Shares (m : ℕ) (p : Point) : Type 0 where
  pub some : 1 ≤ p.amount
  pub divides : p.amount ∣ m

-- the weight times the amount is the multiple
pub weight-times : (m : ℕ) (p : Point) → Shares m p → m / p.amount * p.amount ≡ m
weight-times m p h = div-mul_cancel p.amount h.divides

-- the greater amount has the smaller weight
smaller_weight : (m x u w v : ℕ) → 0 < u → w * x ≡ m → v * u ≡ m → x ≤ u → v ≤ w
smaller_weight m x u w v some first second le =
    elim (cases_lt w v) [
      | inl lt ↦ absurd (let more : w * u < v * u = mul-lt-mul_of_pos_right {m = w} {n = v} {k = u} lt some in let grown : w * x ≤ w * u = mul-le-mul_left {m = x} {n = u} w le in omega arith)
      | inr ge ↦ ge
    ]

-- two points by their amounts and weights
term_ordered : (m x u w v : ℕ) → 0 < u → w * x ≡ m → v * u ≡ m → x ≤ u → w * u + x * v ≡ 2 * m + gap w v * gap x u
term_ordered m x u w v some first second le =
    let less : v ≤ w = smaller_weight m x u w v some first second le in
    let grown = product_unlike x u w v le less in
    let near : gap x u ≡ u - x = omega arith in
    let far : gap w v ≡ w - v = omega arith in
    rw (near, far) (omega arith)

pub term_is : (m x u w v : ℕ) → 0 < x → 0 < u → w * x ≡ m → v * u ≡ m → w * u + x * v ≡ 2 * m + gap w v * gap x u
term_is m x u w v x_some u_some first second =
    elim (cases_lt x u) [
      | inl lt ↦ term_ordered m x u w v u_some first second (omega arith)
      | inr ge ↦
          let turned = term_ordered m u x v w x_some second first ge in
          let near : gap u x ≡ gap x u = omega arith in
          let far : gap v w ≡ gap w v = omega arith in
          let same : gap v w * gap u x ≡ gap w v * gap x u = rw (near, far) refl in
          omega arith
    ]

-- the sum of the products of the differences from an amount and its weight
abbrev pub crossed : ℕ → ℕ → ℕ → List Point → ℕ
crossed m w x points = sum_by (λ p. gap w (m / p.amount) * gap x p.amount) points

crossed_step : (n m w x s t v u d g : ℕ) → w * s + x * t ≡ 2 * (n * m) + d → w * u + x * v ≡ 2 * m + g → w * (u + s) + x * (v + t) ≡ 2 * (suc n * m) + (g + d)
crossed_step n m w x s t v u d g before here = omega arith

-- the sum of the terms of a further point
pub crossed_is : (m w x : ℕ) (points : List Point) → 0 < x → w * x ≡ m → All (Shares m) points → w * sum_x points + x * sum_w m points ≡ 2 * (length points * m) + crossed m w x points
crossed_is m w x [] some own all = omega arith
crossed_is m w x (p ∷ points) some own all =
    let first : Shares m p = All-head (Shares m) p points all in
    rw (sum_by-cons (λ q. q.amount) p points, sum_by-cons (λ q. m / q.amount) p points, sum_by-cons (λ q. gap w (m / q.amount) * gap x q.amount) p points)
    (crossed_step (length points) m w x (sum_x points) (sum_w m points) (m / p.amount) p.amount (crossed m w x points) (gap w (m / p.amount) * gap x p.amount)
    (crossed_is m w x points some own (All-tail (Shares m) p points all))
    (term_is m x p.amount w (m / p.amount) some first.some own (weight-times m p first)))

weighted_step : (n m w x s t d : ℕ) → n * n * m ≤ t * s → w * x ≡ m → w * s + x * t ≡ 2 * (n * m) + d → (suc n * suc n * m ≤ (w + t) * (x + s)) × ((w + t) * (x + s) - suc n * suc n * m ≡ (t * s - n * n * m) + d)
weighted_step n m w x s t d before own here = (omega arith, omega arith)

-- the divisor of the weighted line is never below 0
pub weighted_le : (m : ℕ) (points : List Point) → All (Shares m) points → length points * length points * m ≤ sum_w m points * sum_x points
weighted_le m [] all = omega arith
weighted_le m (p ∷ points) all =
    let first : Shares m p = All-head (Shares m) p points all in
    let rest : All (Shares m) points = All-tail (Shares m) p points all in
    let w : ℕ = m / p.amount in
    rw (sum_by-cons (λ q. q.amount) p points, sum_by-cons (λ q. m / q.amount) p points)
    (weighted_step (length points) m w p.amount (sum_x points) (sum_w m points) (crossed m w p.amount points) (weighted_le m points rest) (weight-times m p first)
    (crossed_is m w p.amount points first.some (weight-times m p first) rest)).0

-- a further point adds the products of the differences from it
pub weighted_divisor-cons : (m : ℕ) (p : Point) (points : List Point) → All (Shares m) (p ∷ points) → weighted_divisor m (p ∷ points) ≡ weighted_divisor m points + crossed m (m / p.amount) p.amount points
weighted_divisor-cons m p points all =
    let first : Shares m p = All-head (Shares m) p points all in
    let rest : All (Shares m) points = All-tail (Shares m) p points all in
    let w : ℕ = m / p.amount in
    rw (sum_by-cons (λ q. q.amount) p points, sum_by-cons (λ q. m / q.amount) p points)
    (weighted_step (length points) m w p.amount (sum_x points) (sum_w m points) (crossed m w p.amount points) (weighted_le m points rest) (weight-times m p first)
    (crossed_is m w p.amount points first.some (weight-times m p first) rest)).1

pos_factor : (w x m : ℕ) → 0 < m → w * x ≡ m → 0 < w
pos_factor zero x m some own = absurd (omega arith)
pos_factor (suc w) x m some own = omega arith

-- two amounts that differ have weights that differ
weights_differ : (m x u w v : ℕ) → 0 < m → w * x ≡ m → v * u ≡ m → (u ≡ x → ⊥) → 0 < gap w v * gap x u
weights_differ m x u w v some first second apart =
    let w_some : 0 < w = pos_factor w x m some first in
    let distinct : v ≡ w → ⊥ = λ e. apart (eq_of_mul-eq-mul_left w w_some u x (let turned : w * u ≡ m = subst (λ k. k * u ≡ m) e second in omega arith)) in
    let far : 0 < gap w v = omega arith in
    let near : 0 < gap x u = omega arith in
    mul-pos far near

-- where an amount is another, a product of differences is above 0
some_crossed : (m w x : ℕ) (points : List Point) → 0 < m → w * x ≡ m → All (Shares m) points → list_any (other_than x) points ≡ true → 0 < crossed m w x points
some_crossed m w x [] some own all other = absurd (false≢true other)
some_crossed m w x (p ∷ points) some own all other =
    rw (sum_by-cons (λ q. gap w (m / q.amount) * gap x q.amount) p points)
    (go (eqb p.amount x) refl other (λ h. some_crossed m w x points some own (All-tail (Shares m) p points all) h) (All-head (Shares m) p points all))
  where
    go : (b : Bool) → eqb p.amount x ≡ b → (not b || list_any (other_than x) points) ≡ true → (list_any (other_than x) points ≡ true → 0 < crossed m w x points) → Shares m p → 0 < gap w (m / p.amount) * gap x p.amount + crossed m w x points
    go true is h others first = let rest = others h in omega (arith, rest)
    go false is h others first = let here = weights_differ m x p.amount w (m / p.amount) some own (weight-times m p first) (eqb-false p.amount x is) in omega (arith, here)

-- the divisor of the weighted line is above 0 where two amounts differ
pub weighted_divisor_pos : (m : ℕ) (points : List Point) → 0 < m → All (Shares m) points → differ points ≡ true → 0 < weighted_divisor m points
weighted_divisor_pos m [] some all two = absurd (false≢true two)
weighted_divisor_pos m (p ∷ points) some all two =
    let grown = some_crossed m (m / p.amount) p.amount points some (weight-times m p (All-head (Shares m) p points all)) (All-tail (Shares m) p points all) two in
    rw (weighted_divisor-cons m p points all) (omega (arith, grown))

-- a quotient is at most the number
weight_le : (m limit a : ℕ) → m ≤ limit → m / a ≤ limit
weight_le m limit a le = let smaller = div-le_self m a in omega (arith, smaller)

-- the sum of the weights is small
pub sum_w-small : (m : ℕ) (points : List Point) → IsCalibration points → m < 2 ^ 60 → sum_w m points < 2 ^ 66
sum_w-small m points is below = omega (arith, sum_by-few (λ p. m / p.amount) (2 ^ 60 - 1) points is (λ p at. weight_le m (2 ^ 60 - 1) p.amount (omega arith)))

-- the sum of the weighted areas is small
pub sum_wy-small : (m : ℕ) (points : List Point) → IsCalibration points → m < 2 ^ 60 → sum_wy m points < 2 ^ 118
sum_wy-small m points is below =
    omega (
      arith,
      sum_by-few (λ p. m / p.amount * p.area) ((2 ^ 60 - 1) * (2 ^ 52 - 1)) points is
          (λ p at. mul-le-mul {n₁ = m / p.amount} {m₁ = p.area} {n₂ = 2 ^ 60 - 1} {m₂ = 2 ^ 52 - 1} (weight_le m (2 ^ 60 - 1) p.amount (omega arith)) (let a = at.area in omega arith)),
    )
