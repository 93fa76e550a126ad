-- The order of fractions as numbers, by cross products.
use Rattle.std.specs.Prelude.{ℕ, max, ℤ, pos, ◌*ℤ◌, Bool, ◌&&◌, nat_eq}
use Rattle.std.specs.declared.cmp.Ordering.{Ordering}
use Rattle.std.specs.Ordering.{int_cmp, nat_cmp, int_eq, then_cmp, on}
use Rattle.cds_frac.specs.Fraction.{Fraction}

-- how a / b stands to c / d, for denominators above 0
abbrev pub ratio_cmp : ℤ → ℕ → ℤ → ℕ → Ordering
ratio_cmp a b c d = int_cmp (a *ℤ pos d) (c *ℤ pos b)

-- how two fractions stand to one another as numbers. A denominator 0, which no `Frac` has, counts as 1
abbrev pub number_cmp : Fraction → Fraction → Ordering
number_cmp f g = ratio_cmp f.num (max 1 f.den) g.num (max 1 g.den)

-- the order of fractions as numbers. Two fractions in lowest terms that are one number are the same, so
-- that the denominators decide nothing there
abbrev pub fraction_cmp : Fraction → Fraction → Ordering
fraction_cmp = then_cmp number_cmp (on (λ f. f.den) nat_cmp)

-- the same numerator over the same denominator
abbrev pub fraction_eq : Fraction → Fraction → Bool
fraction_eq f g = int_eq f.num g.num && nat_eq f.den g.den
