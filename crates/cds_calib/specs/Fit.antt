-- The straight line y = a + b x through the points of a calibration, by least squares: all points alike, through the
-- origin, or each point weighted by the inverse of its amount. Slope b and intercept a are numerators over one
-- divisor, not reduced. The numbers here are natural ones, on which `-` stops at 0: no divisor is ever below 0, and
-- of a numerator of b that is not above 0 no more is asked.
use Rattle.std.specs.Prelude.{ℕ, ◌-◌, ◌*◌, ◌/◌, ◌%◌, ◌^◌, ◌<◌, ◌==◌, nat_lt, Bool, ◌&&◌, if◌then◌else◌, List, length, sum_by, Result, Ok, Err, ℤ, pos, ◌-ℤ◌, unsigned_abs}
use Rattle.std.specs.List.{list_all, fold}
use Rattle.cds_base.specs.declared.peak.Missing.{Missing}
use Rattle.cds_base.specs.declared.peak.Missing.TheVariants.{TooFew, NotRising, Unfit}
use Rattle.cds_rules.specs.declared.method.Weight.{Weight}
use Rattle.cds_rules.specs.declared.method.Weight.TheVariants.{Equal, Origin, Inverse}
use Rattle.cds_frac.specs.Divisors.{least_from}
use Rattle.cds_frac.specs.declared.divisors.TheConstants.{LCM_LIMIT}
use Rattle.cds_frac.specs.declared.fraction.TheConstants.{PART_LIMIT}
use Rattle.cds_calib.specs.declared.point.Point.{Point}
use Rattle.cds_calib.specs.Points.{sum_x, sum_y, sum_xx, sum_xy}
use Rattle.cds_calib.specs.Line.{differ, corrected_xx, corrected_xy}

-- a line: how its points are weighted, the divisor, and over it the numerators of the slope b and the intercept a
pub record CalibrationLine : Type 0 where
  pub weight : Weight
  pub divisor : ℕ
  pub slope : ℕ
  pub intercept : ℤ

-- each amount divides the number
abbrev pub divided_by_all : List Point → ℕ → Bool
divided_by_all points m = list_all (λ p. m % p.amount == 0) points

-- the product of the amounts, which each of them divides
abbrev pub product_x : List Point → ℕ
product_x points = fold (λ a p. a * p.amount) 1 points

-- M, the least common multiple of the amounts: the least number above 0 that each of them divides
unfoldable pub common_multiple : List Point → ℕ
common_multiple points = least_from (divided_by_all points) 1 (product_x points)

-- Sw, the sum of the weights w = M / x
abbrev pub sum_w : ℕ → List Point → ℕ
sum_w m points = sum_by (λ p. m / p.amount) points

-- Swy, the sum of the weighted areas
abbrev pub sum_wy : ℕ → List Point → ℕ
sum_wy m points = sum_by (λ p. m / p.amount * p.area) points

-- D' = Sw Sx - n^2 M, the divisor of the weighted line
abbrev pub weighted_divisor : ℕ → List Point → ℕ
weighted_divisor m points = sum_w m points * sum_x points - length points * length points * m

-- all points alike: D = n Sxx - Sx^2, b = (n Sxy - Sx Sy) / D, a = (Sy Sxx - Sx Sxy) / D
abbrev pub equal_line : List Point → CalibrationLine
equal_line points = record {
  weight = Equal;
  divisor = corrected_xx points;
  slope = corrected_xy points;
  intercept = pos (sum_y points * sum_xx points) -ℤ pos (sum_x points * sum_xy points);
}

-- through the origin: b = Sxy / Sxx, a = 0
abbrev pub origin_line : List Point → CalibrationLine
origin_line points = record { weight = Origin; divisor = sum_xx points; slope = sum_xy points; intercept = pos 0 }

-- weights M / x: D' = Sw Sx - n^2 M, b = (Sw Sy - n Swy) / D', a = (Sx Swy - n M Sy) / D'
abbrev pub inverse_line : ℕ → List Point → CalibrationLine
inverse_line m points = record {
  weight = Inverse;
  divisor = weighted_divisor m points;
  slope = sum_w m points * sum_y points - length points * sum_wy m points;
  intercept = pos (sum_x points * sum_wy m points) -ℤ pos (length points * m * sum_y points);
}

-- the line where it rises
abbrev pub rising : CalibrationLine → Result CalibrationLine Missing
rising line = if nat_lt 0 line.slope then Ok line else Err NotRising

-- M is below 2^60, and Sx Swy below 2^126
abbrev pub weights_fit : ℕ → List Point → Bool
weights_fit m points = nat_lt m LCM_LIMIT && nat_lt (sum_x points * sum_wy m points) PART_LIMIT

-- the line through the points, or why there is none: too few points, numbers past the limits, or a line that does
-- not rise, the first of these that holds
abbrev pub fit_of : Weight → List Point → Result CalibrationLine Missing
fit_of Equal points = if differ points then rising (equal_line points) else Err TooFew
fit_of Origin points = if nat_lt 0 (length points) then rising (origin_line points) else Err TooFew
fit_of Inverse points =
    let m : ℕ = common_multiple points in
    if differ points then (if weights_fit m points then rising (inverse_line m points) else Err Unfit) else Err TooFew

-- the divisor of a line stays below this number
abbrev pub divisor_limit : Weight → ℕ
divisor_limit Equal = 2 ^ 72
divisor_limit Origin = 2 ^ 66
divisor_limit Inverse = 2 ^ 102

-- the numerator of the slope stays below this number
abbrev pub slope_limit : Weight → ℕ
slope_limit Equal = 2 ^ 94
slope_limit Origin = 2 ^ 88
slope_limit Inverse = 2 ^ 124

-- the numerator of the intercept stays below this number, sign apart: it is 0 for a line through the origin
abbrev pub intercept_limit : Weight → ℕ
intercept_limit Equal = 2 ^ 124
intercept_limit Origin = 1
intercept_limit Inverse = PART_LIMIT

-- what each line is: it rises, and its numbers stay below the limits of its weight
pub record IsFit (line : CalibrationLine) : Type 0 where
  pub divisor_some : 0 < line.divisor
  pub slope_some : 0 < line.slope
  pub divisor_fits : line.divisor < divisor_limit line.weight
  pub slope_fits : line.slope < slope_limit line.weight
  pub intercept_fits : unsigned_abs line.intercept < intercept_limit line.weight
