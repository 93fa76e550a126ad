-- The sums that the lines of a calibration rest on.
use Rattle.std.specs.Prelude.{ℕ, ◌-◌, ◌*◌, ◌==◌, Bool, false, not, List, [], ◌∷◌, length}
use Rattle.std.specs.List.{list_any}
use Rattle.cds_calib.specs.declared.point.Point.{Point}
use Rattle.cds_calib.specs.Points.{sum_x, sum_y, sum_xx, sum_xy, sum_yy}

-- two of the points differ in their amounts
abbrev pub differ : List Point → Bool
differ [] = false
differ (p ∷ points) = list_any (λ q. not (q.amount == p.amount)) points

-- n Sxx - Sx^2, which is never below 0
abbrev pub corrected_xx : List Point → ℕ
corrected_xx points = length points * sum_xx points - sum_x points * sum_x points

-- n Syy - Sy^2, which is never below 0
abbrev pub corrected_yy : List Point → ℕ
corrected_yy points = length points * sum_yy points - sum_y points * sum_y points

-- n Sxy - Sx Sy, and 0 where that is below 0
abbrev pub corrected_xy : List Point → ℕ
corrected_xy points = length points * sum_xy points - sum_x points * sum_y points
