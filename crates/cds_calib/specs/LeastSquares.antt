-- What makes a straight line y = a + b x the least squares line of weighted points: the two normal equations
-- a Sw + b Swx = Swy and a Swx + b Swxx = Swxy, and b Sxx = Sxy for a line through the origin. The numbers of a line are
-- numerators over its divisor, so each equation here is one of whole numbers, times the divisor.
use Rattle.std.specs.Prelude.{◌≡◌, ℕ, ◌*◌, List, sum_by, pos, ◌+ℤ◌, ◌*ℤ◌}
use Rattle.cds_calib.specs.declared.point.Point.{Point}
use Rattle.cds_calib.specs.Fit.{CalibrationLine}

-- the sum of the weights, where w is the weight of a point
abbrev pub sum_weights : (Point → ℕ) → List Point → ℕ
sum_weights w points = sum_by w points

-- the sums of the weighted amounts and of the weighted areas
abbrev pub weighted_x : (Point → ℕ) → List Point → ℕ
weighted_x w points = sum_by (λ p. w p * p.amount) points

abbrev pub weighted_y : (Point → ℕ) → List Point → ℕ
weighted_y w points = sum_by (λ p. w p * p.area) points

-- the sums of the weighted squares of the amounts and of the weighted products of amount and area
abbrev pub weighted_xx : (Point → ℕ) → List Point → ℕ
weighted_xx w points = sum_by (λ p. w p * (p.amount * p.amount)) points

abbrev pub weighted_xy : (Point → ℕ) → List Point → ℕ
weighted_xy w points = sum_by (λ p. w p * (p.amount * p.area)) points

-- the line meets both normal equations of points with these weights
pub record MeetsNormalEquations (w : Point → ℕ) (points : List Point) (line : CalibrationLine) : Type 0 where
  pub level : (line.intercept *ℤ pos (sum_weights w points)) +ℤ (pos line.slope *ℤ pos (weighted_x w points))
      ≡ pos line.divisor *ℤ pos (weighted_y w points)
  pub rise : (line.intercept *ℤ pos (weighted_x w points)) +ℤ (pos line.slope *ℤ pos (weighted_xx w points))
      ≡ pos line.divisor *ℤ pos (weighted_xy w points)
