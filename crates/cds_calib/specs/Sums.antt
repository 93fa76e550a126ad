-- How the sums that a calibration keeps follow its points. No public clause names them.
use Rattle.std.specs.Prelude.{◌≡◌, ℕ, ◌+◌, ◌*◌, ◌^◌, ◌<◌, ◌≤◌, List}
use Rattle.cds_calib.specs.declared.point.Point.{Point}
use Rattle.cds_calib.specs.declared.point.TheConstants.{MOST_POINTS}
use Rattle.cds_calib.specs.declared.sums.Sums.{Sums}
use Rattle.cds_calib.specs.Points.{IsCalibration, sum_x, sum_y, sum_xx, sum_xy, sum_yy}

-- the sums with one point more
abbrev pub with_point : Sums → Point → Sums
with_point s p = record {
  x = s.x + p.amount;
  y = s.y + p.area;
  xx = s.xx + p.amount * p.amount;
  xy = s.xy + p.amount * p.area;
  yy = s.yy + p.area * p.area;
}

-- the five plain sums of a list
abbrev pub sums_of : List Point → Sums
sums_of points = record { x = sum_x points; y = sum_y points; xx = sum_xx points; xy = sum_xy points; yy = sum_yy points }

-- sums of at most 64 points within the limits
pub record IsSmall (s : Sums) : Type 0 where
  pub x : s.x < 2 ^ 36
  pub y : s.y < 2 ^ 58
  pub xx : s.xx < 2 ^ 66
  pub xy : s.xy < 2 ^ 88
  pub yy : s.yy < 2 ^ 110

-- the point may be taken out of the sums
pub record HasPoint (s : Sums) (p : Point) : Type 0 where
  pub x : p.amount ≤ s.x
  pub y : p.area ≤ s.y
  pub xx : p.amount * p.amount ≤ s.xx
  pub xy : p.amount * p.area ≤ s.xy
  pub yy : p.area * p.area ≤ s.yy

-- the points are within the limits, there is room for all that may come, and the kept sums are those of the list
pub record IsKept (points : List Point) (places : ℕ) (s : Sums) : Type 0 where
  pub calibration : IsCalibration points
  pub room : MOST_POINTS ≤ places
  pub sums : s ≡ sums_of points
