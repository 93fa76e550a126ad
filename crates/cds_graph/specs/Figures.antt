-- The figures of the peaks of a row, each with the first cause why it is missing. After USP General Chapter 621, in
-- this project's forms.
use Rattle.std.specs.Prelude.{pos, ◌*ℤ◌, unsigned_abs, if◌then◌else◌}
use Rattle.std.specs.Prelude.{ℕ, ◌-◌, ◌*◌, ◌<◌, ◌≤◌, Option, option_map, ok_or, Result, Ok}
use Rattle.std.specs.Option.{ForSome}
use Rattle.std.specs.Ordering.{is_le}
use Rattle.cds_base.specs.Answers.{◌>>=◌}
use Rattle.cds_base.specs.declared.peak.Missing.{Missing}
use Rattle.cds_base.specs.declared.peak.Peak.{Peak}
use Rattle.cds_base.specs.declared.time.TheConstants.{LAST_TIME_US}
use Rattle.cds_base.specs.declared.peak.Missing.TheVariants.{NoPeak, WidthCut, NoDeadTime, NoValley}
use Rattle.cds_rules.specs.declared.check.Check.{Check}
use Rattle.cds_frac.specs.Fraction.{Fraction, lowest_terms}
use Rattle.cds_frac.specs.FractionOrder.{ratio_cmp}
use Rattle.cds_figures.specs.Figures.{resolution_of, plates_of, tailing_of, retention_of}
use Rattle.cds_integrate.specs.Seen.{PeakSeen, RowSeen}
use Rattle.cds_graph.specs.Rows.{peak_in}

-- the width of a peak at half its height, in microseconds
abbrev pub half_width : PeakSeen → Result ℕ Missing
half_width peak = ok_or (option_map (λ (times : ℕ × ℕ). times.1 - times.0) peak.half) WidthCut

-- the resolution of two peaks
abbrev pub resolution_between : PeakSeen → PeakSeen → Result Fraction Missing
resolution_between one other = do
  width ← half_width one
  other_width ← half_width other
  Ok (resolution_of one.time_us width other.time_us other_width)

-- the theoretical plates of a peak
abbrev pub plates_in : PeakSeen → Result Fraction Missing
plates_in peak = do
  width ← half_width peak
  Ok (plates_of peak.time_us width)

-- the tailing of a peak in a trace of this period; it is taken from the apex sample, whatever the time of the peak is
abbrev pub tailing_in : ℕ → PeakSeen → Result Fraction Missing
tailing_in period peak = do
  times ← ok_or peak.twentieth WidthCut
  Ok (tailing_of (peak.apex * period) times.0 times.1)

-- where a peak crosses one twentieth of its height, the first crossing lies before its apex sample, and that within the
-- longest trace
abbrev pub CrossesBefore : ℕ → Peak → Type 0
CrossesBefore period peak =
    ForSome peak.twentieth (λ times. (times.0 < peak.apex * period) × (peak.apex * period ≤ LAST_TIME_US))

-- twice a height over the noise
abbrev pub over_noise : Fraction → ℕ → Fraction
over_noise height noise = lowest_terms (pos 2 *ℤ height.num) (height.den * noise)

-- a height over that of a boundary
abbrev pub over_boundary : Fraction → Fraction → Fraction
over_boundary height boundary = lowest_terms (height.num *ℤ pos boundary.den) (unsigned_abs boundary.num * height.den)

-- the signal to noise of a peak
abbrev pub signal_noise_in : Result ℕ Missing → PeakSeen → Result Fraction Missing
signal_noise_in noise peak = do
  range ← noise
  Ok (over_noise peak.height range)

-- the retention factor of a peak
abbrev pub retention_in : Option ℕ → PeakSeen → Result Fraction Missing
retention_in dead_time peak = do
  dead ← ok_or dead_time NoDeadTime
  Ok (retention_of peak.time_us dead)

-- the smaller of two heights
abbrev pub smaller : Fraction → Fraction → Fraction
smaller one other = if is_le (ratio_cmp one.num one.den other.num other.den) then one else other

-- the peak to valley of a peak: the smaller of the two heights around the valley before it, over that of the valley
abbrev pub peak_valley_in : PeakSeen → Result Fraction Missing
peak_valley_in peak = do
  heights ← ok_or peak.valley NoValley
  Ok (over_boundary (smaller heights.0 peak.height) heights.1)

-- the figure of the component's peak in a row
abbrev pub of_peak : (PeakSeen → Result Fraction Missing) → Check → RowSeen → Result Fraction Missing
of_peak figure check row = peak_in row check.component >>= figure

-- the peak of a check's second component in a row
abbrev pub other_peak : Check → RowSeen → Result PeakSeen Missing
other_peak check row = ok_or check.other NoPeak >>= peak_in row

-- the resolution of a check's two components in a row
abbrev pub of_two_peaks : Check → RowSeen → Result Fraction Missing
of_two_peaks check row = do
  one ← peak_in row check.component
  other ← other_peak check row
  resolution_between one other
