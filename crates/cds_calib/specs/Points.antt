-- The points of a calibration and their plain sums, in the words of least squares: n points, x an amount, y an area.
use Rattle.std.specs.Prelude.{ℕ, ◌*◌, ◌<◌, ◌≤◌, List, length, sum_by, All}
use Rattle.cds_base.specs.declared.peak.TheConstants.{AREA_LIMIT}
use Rattle.cds_calib.specs.declared.point.Point.{Point}
use Rattle.cds_base.specs.declared.limits.TheConstants.{MOST_AMOUNT}
use Rattle.cds_calib.specs.declared.point.TheConstants.{MOST_POINTS}

-- a point within the limits: an amount of 1 to 10^9 and an area below 2^52
pub record IsPoint (p : Point) : Type 0 where
  pub some : 1 ≤ p.amount
  pub amount : p.amount ≤ MOST_AMOUNT
  pub area : p.area < AREA_LIMIT

-- what the points of a calibration always are: at most 64, each within the limits
pub record IsCalibration (points : List Point) : Type 0 where
  pub few : length points ≤ MOST_POINTS
  pub within : All IsPoint points

-- Sx, the sum of the amounts
abbrev pub sum_x : List Point → ℕ
sum_x points = sum_by (λ p. p.amount) points

-- Sy, the sum of the areas
abbrev pub sum_y : List Point → ℕ
sum_y points = sum_by (λ p. p.area) points

-- Sxx, the sum of the squares of the amounts
abbrev pub sum_xx : List Point → ℕ
sum_xx points = sum_by (λ p. p.amount * p.amount) points

-- Sxy, the sum of the products of amount and area
abbrev pub sum_xy : List Point → ℕ
sum_xy points = sum_by (λ p. p.amount * p.area) points

-- Syy, the sum of the squares of the areas
abbrev pub sum_yy : List Point → ℕ
sum_yy points = sum_by (λ p. p.area * p.area) points
