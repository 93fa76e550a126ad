-- Heights and areas of a signal over a straight line. Both are fractions over a divisor that the line alone gives, so
-- they are stated here as whole numbers, times that divisor. This project's own rules.
use Rattle.std.specs.Prelude.{◌≡◌, ℕ, zero, suc, ◌+◌, ◌-◌, ◌*◌, ◌/◌, ℤ, pos, ◌+ℤ◌, ◌*ℤ◌, nat_abs}
use Rattle.cds_base.specs.declared.time.TheConstants.{MILLISECOND_US}
use Rattle.cds_base.specs.declared.peak.Line.{Line}
use Rattle.cds_base.specs.declared.peak.Ratio.{Ratio}
use Rattle.cds_trace.specs.Signal.{Signal}
use Rattle.cds_trace.specs.Heights.{height_by_span}

-- the fraction is the number num / den: their cross products agree
abbrev pub IsRatio : Ratio → ℤ → ℕ → Type 0
IsRatio ratio num den = ratio.num *ℤ pos den ≡ num *ℤ pos ratio.den

-- the sum of f over `count` indices in a row, the first of which is `start`
abbrev pub sum_over : (ℕ → ℤ) → ℕ → ℕ → ℤ
sum_over f start zero = pos 0
sum_over f start (suc count) = sum_over f start count +ℤ f (start + count)

-- the trapezoid from sample i to sample i + 1, which is half of the heights at both, times twice the line's span
abbrev pub trapezoid : Signal → Line → ℕ → ℤ
trapezoid signal line i = height_by_span signal line i +ℤ height_by_span signal line (i + 1)

-- the area from sample start to sample end, times twice the line's span: the sum of the trapezoids between them
abbrev pub area_by_double_span : Signal → Line → ℕ → ℕ → ℤ
area_by_double_span signal line start end = sum_over (trapezoid signal line) start (end - start)

-- the reported area of an area that isn't negative: area * period / 1000, rounded down
abbrev pub units_of : Ratio → ℕ → ℕ
units_of area period = nat_abs area.num * period / (MILLISECOND_US * area.den)
