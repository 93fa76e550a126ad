-- The amount of an area by a line: (y - a) / b times the dilution u / v, as an exact fraction.
use Rattle.std.specs.Prelude.{ℕ, ◌*◌, nat_lt, Bool, true, ◌&&◌, if◌then◌else◌, Result, Ok, Err, ℤ, pos, ◌-ℤ◌, ◌*ℤ◌, unsigned_abs}
use Rattle.cds_base.specs.declared.peak.Missing.{Missing}
use Rattle.cds_base.specs.declared.peak.Missing.TheVariants.{Unfit}
use Rattle.cds_rules.specs.declared.method.Weight.{Weight}
use Rattle.cds_rules.specs.declared.method.Weight.TheVariants.{Equal, Origin, Inverse}
use Rattle.cds_frac.specs.Fraction.{Fraction, lowest_terms}
use Rattle.cds_frac.specs.declared.fraction.TheConstants.{PART_LIMIT}
use Rattle.cds_calib.specs.Fit.{CalibrationLine}

-- y times the divisor, less the numerator of a: over the numerator of b it is (y - a) / b
abbrev pub above_intercept : CalibrationLine → ℕ → ℤ
above_intercept line y = pos (y * line.divisor) -ℤ line.intercept

-- (y - a) / b, in lowest terms
abbrev pub undiluted : CalibrationLine → ℕ → Fraction
undiluted line y = lowest_terms (above_intercept line y) line.slope

-- (y - a) / b * u / v, in lowest terms
abbrev pub diluted : CalibrationLine → ℕ → ℕ → ℕ → Fraction
diluted line y u v = lowest_terms (above_intercept line y *ℤ pos u) (line.slope * v)

-- both numbers before the dilution are below 2^126 in absolute value. They always are in a line of the other weights
abbrev pub undiluted_fits : Weight → CalibrationLine → ℕ → Bool
undiluted_fits Equal line y = true
undiluted_fits Origin line y = true
undiluted_fits Inverse line y = nat_lt (y * line.divisor) PART_LIMIT
    && nat_lt (unsigned_abs (above_intercept line y)) PART_LIMIT

-- both parts of the fraction are below 2^126 in absolute value
abbrev pub parts_fit : Fraction → Bool
parts_fit f = nat_lt (unsigned_abs f.num) PART_LIMIT && nat_lt f.den PART_LIMIT

-- the amount, or that a number passes the limits
abbrev pub amount_of : CalibrationLine → ℕ → ℕ → ℕ → Result Fraction Missing
amount_of line y u v =
    if undiluted_fits line.weight line y && parts_fit (diluted line y u v) then Ok (diluted line y u v) else Err Unfit
