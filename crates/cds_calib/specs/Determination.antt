-- The coefficient of determination r^2 = (n Sxy - Sx Sy)^2 / ((n Sxx - Sx^2) (n Syy - Sy^2)) of the unweighted line
-- with intercept, whatever the weight of the line that is used. It is compared as a product, and never divided.
use Rattle.std.specs.Prelude.{ℕ, ◌*◌, ◌≤◌, nat_lt, nat_le, Bool, if◌then◌else◌, List, Result, Ok, Err}
use Rattle.cds_base.specs.Search.{greatest}
use Rattle.cds_base.specs.declared.peak.Missing.{Missing}
use Rattle.cds_base.specs.declared.peak.Missing.TheVariants.{TooFew, NotRising}
use Rattle.cds_calib.specs.declared.determination.TheConstants.{MOST_DETERMINATION}
use Rattle.cds_calib.specs.declared.point.Point.{Point}
use Rattle.cds_calib.specs.Line.{differ, corrected_xx, corrected_yy, corrected_xy}

-- 10000 (n Sxy - Sx Sy)^2
abbrev pub explained : List Point → ℕ
explained points = MOST_DETERMINATION * (corrected_xy points * corrected_xy points)

-- (n Sxx - Sx^2) (n Syy - Sy^2)
abbrev pub total : List Point → ℕ
total points = corrected_xx points * corrected_yy points

-- r^2 is at least q / 10000
abbrev pub reaches : List Point → ℕ → Bool
reaches points q = nat_le (q * total points) (explained points)

-- what stands of points whose line rises, or why it doesn't: fewer than two different amounts, or no rise
abbrev pub if_rising : {A : Type 0} → List Point → A → Result A Missing
if_rising points a =
    if differ points then (if nat_lt 0 (corrected_xy points) then Ok a else Err NotRising) else Err TooFew

-- whether r^2 is at least q / 10000
abbrev pub at_least_of : List Point → ℕ → Result Bool Missing
at_least_of points q = if_rising points (reaches points q)

-- the greatest q of 0 to 10000 such that r^2 is at least q / 10000
abbrev pub determination_of : List Point → Result ℕ Missing
determination_of points = if_rising points (greatest (reaches points) MOST_DETERMINATION)

-- q is the greatest number at all such that r^2 is at least q / 10000
pub record IsDetermination (points : List Point) (q : ℕ) : Type 0 where
  pub reached : q * total points ≤ explained points
  pub greatest : (k : ℕ) → k * total points ≤ explained points → k ≤ q
