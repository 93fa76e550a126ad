-- The square of a deviation as the code holds it. No public clause names it.
use Rattle.std.specs.Prelude.{ℕ, ◌*◌, ◌^◌, ◌<◌, ◌≤◌, nat_le, Bool, List}
use Rattle.cds_suit.specs.declared.square.Square.{Square}
use Rattle.cds_suit.specs.declared.square.TheConstants.{MOST_VALUES, ONE_SQUARED}
use Rattle.cds_suit.specs.Deviation.{spread, level}

-- the two numbers of the values
abbrev pub square_of : List ℕ → Square
square_of values = record { spread = spread values; level = level values }

-- the deviation is at least q hundredths of a percent
abbrev pub reaches : Square → ℕ → Bool
reaches s q = nat_le (q * q * s.level) (s.spread * ONE_SQUARED)

-- what the square of a deviation always is: at most 64, over a divisor above 0
pub record IsSquare (s : Square) : Type 0 where
  pub some : 0 < s.level
  pub small : s.spread ≤ MOST_VALUES * s.level
  pub spread_fits : s.spread < 2 ^ 122
  pub level_fits : s.level < 2 ^ 122
