-- The relative standard deviation of n values, which is the standard deviation s over the mean. With plain sums
-- s^2 = (n Sxx - Sx^2) / (n (n - 1)) and the mean is Sx / n, so its square is n (n Sxx - Sx^2) / ((n - 1) Sx^2).
-- It is compared as a product, and never divided or rounded. After USP General Chapter 621, in this project's form.
use Rattle.std.specs.Prelude.{ℕ, ◌-◌, ◌*◌, ◌≤◌, nat_lt, nat_le, Bool, if◌then◌else◌, List, length, sum, sum_by, Result, Ok, Err}
use Rattle.cds_base.specs.Search.{greatest}
use Rattle.cds_base.specs.declared.peak.Missing.{Missing}
use Rattle.cds_base.specs.declared.peak.Missing.TheVariants.{TooFew, ZeroSum}
use Rattle.cds_suit.specs.declared.square.TheConstants.{MOST_DEVIATION, ONE_SQUARED}

-- Sxx, the sum of the squares of the values
abbrev pub sum_of_squares : List ℕ → ℕ
sum_of_squares values = sum_by (λ x. x * x) values

-- n (n Sxx - Sx^2), in which the difference is never below 0
abbrev pub spread : List ℕ → ℕ
spread values = length values * (length values * sum_of_squares values - sum values * sum values)

-- (n - 1) Sx^2
abbrev pub level : List ℕ → ℕ
level values = (length values - 1) * (sum values * sum values)

-- the deviation is at most q hundredths of a percent: its square, spread / level, is at most q^2 / 10^8
abbrev pub is_at_most : List ℕ → ℕ → Bool
is_at_most values q = nat_le (spread values * ONE_SQUARED) (q * q * level values)

-- the deviation is at least q hundredths of a percent
abbrev pub is_at_least : List ℕ → ℕ → Bool
is_at_least values q = nat_le (q * q * level values) (spread values * ONE_SQUARED)

-- what stands of values that have a deviation, or why they have none: fewer than two values, or a sum of 0
abbrev pub if_deviates : {A : Type 0} → List ℕ → A → Result A Missing
if_deviates values a =
    if nat_lt (length values) 2 then Err TooFew else (if nat_lt 0 (sum values) then Ok a else Err ZeroSum)

-- whether the deviation is at most q hundredths of a percent
abbrev pub at_most_of : List ℕ → ℕ → Result Bool Missing
at_most_of values q = if_deviates values (is_at_most values q)

-- the greatest q of 0 to 80,000 such that the deviation is at least q hundredths of a percent
abbrev pub floor_of : List ℕ → Result ℕ Missing
floor_of values = if_deviates values (greatest (is_at_least values) MOST_DEVIATION)

-- q is the greatest number at all such that the deviation is at least q hundredths of a percent
pub record IsDeviation (values : List ℕ) (q : ℕ) : Type 0 where
  pub reached : q * q * level values ≤ spread values * ONE_SQUARED
  pub last : (k : ℕ) → k * k * level values ≤ spread values * ONE_SQUARED → k ≤ q
  pub most : q ≤ MOST_DEVIATION
