-- A fraction, and a number in lowest terms.
use Rattle.std.specs.Prelude.{◌≡◌, ℕ, ◌-◌, ◌*◌, ◌/◌, ◌%◌, ◌<◌, ℤ, pos, negsuc, neg_ℤ, ◌*ℤ◌, ◌==◌, unsigned_abs}
use Rattle.std.specs.Int.{int_div_euclid}
use Rattle.cds_frac.specs.Divisors.{least_from, AreCoprime}
use Rattle.cds_frac.specs.declared.fraction.TheConstants.{PART_LIMIT}

-- the number `num / den`
pub record Fraction : Type 0 where
  pub num : ℤ
  pub den : ℕ

-- the fraction can't be shortened, and its denominator is positive
abbrev pub IsReduced : Fraction → Type 0
IsReduced f = (0 < f.den) × AreCoprime (unsigned_abs f.num) f.den

-- the number n with the sign of z
abbrev pub with_sign : ℤ → ℕ → ℤ
with_sign (pos _) n = pos n
with_sign (negsuc _) n = neg_ℤ (pos n)

-- the least denominator with which `num / den` can be written
unfoldable pub least_den : ℕ → ℕ → ℕ
least_den num den = least_from (λ d. num * d % den == 0) 1 (den - 1)

-- the number `num / den`, written with its least denominator
unfoldable pub lowest_terms : ℤ → ℕ → Fraction
lowest_terms num den =
    let d : ℕ = least_den (unsigned_abs num) den in
    record { num = with_sign num (unsigned_abs num * d / den); den = d }

-- the greatest whole number that isn't above the number
abbrev pub floor_of : Fraction → ℤ
floor_of f = int_div_euclid f.num (pos f.den)

-- both parts are below their limit, 2^126
abbrev pub IsInRange : Fraction → Type 0
IsInRange f = (unsigned_abs f.num < PART_LIMIT) × (f.den < PART_LIMIT)

-- the number times u / v, in lowest terms
abbrev pub product_of : Fraction → ℕ → ℕ → Fraction
product_of f u v = lowest_terms (f.num *ℤ pos u) (f.den * v)

-- the two fractions are one number
abbrev pub IsSameNumber : Fraction → Fraction → Type 0
IsSameNumber f g = f.num *ℤ pos g.den ≡ g.num *ℤ pos f.den

-- what each `Frac` is: a number in lowest terms, with both parts below 2^126
pub record IsFrac (f : Fraction) : Type 0 where
  pub reduced : IsReduced f
  pub in_range : IsInRange f

-- n / d is `size / den` times `u / v`, in lowest terms
pub record IsProduct (size den u v n d : ℕ) : Type 0 where
  pub positive : 0 < d
  pub coprime : AreCoprime n d
  pub number : n * (den * v) ≡ size * u * d
