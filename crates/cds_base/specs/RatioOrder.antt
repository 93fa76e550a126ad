-- The order of fractions, by their cross products.
use Rattle.std.specs.Prelude.{Bool, pos, ◌*ℤ◌, int_lt}
use Rattle.cds_base.specs.declared.peak.Ratio.{Ratio}

-- the first fraction is below the second, as numbers
abbrev pub is_below : Ratio → Ratio → Bool
is_below a b = int_lt (a.num *ℤ pos b.den) (b.num *ℤ pos a.den)
