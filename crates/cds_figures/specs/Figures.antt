-- The figures of peaks as exact fractions. After USP General Chapter 621, in the forms and with the constants of this
-- project. Times and widths are in microseconds.
use Rattle.std.specs.Prelude.{ℕ, ◌+◌, ◌-◌, ◌*◌, pos, ◌-ℤ◌, ◌*ℤ◌, unsigned_abs}
use Rattle.std.specs.Int.{abs_diff}
use Rattle.cds_base.specs.declared.limits.TheConstants.{HUNDREDTHS}
use Rattle.cds_base.specs.declared.peak.Ratio.{Ratio}
use Rattle.cds_frac.specs.Fraction.{Fraction, lowest_terms}
use Rattle.cds_figures.specs.declared.formulas.TheConstants.{RESOLUTION_HUNDREDTHS, PLATES_HUNDREDTHS}

-- 1.18 |t2 - t1| / (w1 + w2), with the times of two peaks and their widths at half height
abbrev pub resolution_of : ℕ → ℕ → ℕ → ℕ → Fraction
resolution_of t1 w1 t2 w2 = lowest_terms (pos (RESOLUTION_HUNDREDTHS * abs_diff t1 t2)) (HUNDREDTHS * (w1 + w2))

-- 5.54 t^2 / w^2, with the time of a peak and its width at half height
abbrev pub plates_of : ℕ → ℕ → Fraction
plates_of t w = lowest_terms (pos (PLATES_HUNDREDTHS * (t * t))) (HUNDREDTHS * (w * w))

-- w / (2 d): the width at one twentieth of the height over twice the part of it before the apex sample, whatever the time
-- of the peak is
abbrev pub tailing_of : ℕ → ℕ → ℕ → Fraction
tailing_of apex left right = lowest_terms (pos right -ℤ pos left) (2 * (apex - left))

-- 2 H / h: twice the height over the noise
abbrev pub signal_noise_of : Ratio → ℕ → Fraction
signal_noise_of height h = lowest_terms (pos 2 *ℤ height.num) (height.den * h)

-- (t - tM) / tM, with the time of a peak, and tM the dead time
abbrev pub retention_of : ℕ → ℕ → Fraction
retention_of t dead = lowest_terms (pos t -ℤ pos dead) dead

-- p / v: the height of a peak over that of the valley
abbrev pub peak_valley_of : Ratio → Ratio → Fraction
peak_valley_of p v = lowest_terms (p.num *ℤ pos v.den) (unsigned_abs v.num * p.den)
