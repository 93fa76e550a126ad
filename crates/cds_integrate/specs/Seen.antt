-- A row in plain numbers, with its ratios in lowest terms: a function of the signal, of what the method states and of
-- the row's events. This project's own rules.
use Rattle.std.specs.Prelude.{ℕ, suc, ◌*◌, Bool, List, [], ◌∷◌, map, length, Option, option_map, nat_le, if◌then◌else◌}
use Rattle.cds_base.specs.declared.event.Event.{Event}
use Rattle.cds_base.specs.declared.peak.Line.{Line}
use Rattle.cds_base.specs.declared.peak.Ratio.{Ratio}
use Rattle.cds_base.specs.declared.peak.Peak.{Peak}
use Rattle.cds_base.specs.declared.Window.{Window}
use Rattle.cds_frac.specs.Fraction.{Fraction, lowest_terms}
use Rattle.cds_rules.specs.Fields.{Fields}
use Rattle.cds_trace.specs.Signal.{Signal}
use Rattle.cds_trace.specs.Heights.{span}
use Rattle.cds_detect.specs.Settings.{settings_of}
use Rattle.cds_detect.specs.Raw.{raw_peaks_of}
use Rattle.cds_detect.specs.declared.raw.TheConstants.{MOST_RAW_PEAKS}
use Rattle.cds_names.proofs.Existence.{exactly_one_naming}
use Rattle.cds_integrate.specs.declared.peaks.TheConstants.{HALF, TWENTIETH}
use Rattle.cds_integrate.specs.Measures.{Measured, reported_area}
use Rattle.cds_integrate.specs.Peaks.{Found, boundary_height, neighbour, crossings_at, component_of, time_of}
use Rattle.cds_integrate.specs.Row.{Answer, Peaks, TooMany, windows_of, found_of}

-- a peak in plain numbers
pub record PeakSeen : Type 0 where
  -- the samples at which it starts, has its apex and ends
  pub start : ℕ
  pub apex : ℕ
  pub end : ℕ
  pub rider : Bool
  pub line : Line
  pub time_us : ℕ
  -- its exact area in count samples, its reported area, and its exact height in counts
  pub area : Fraction
  pub units : ℕ
  pub height : Fraction
  -- where it crosses half its height and one twentieth of it, in microseconds
  pub half : Option (ℕ × ℕ)
  pub twentieth : Option (ℕ × ℕ)
  -- the height of the part before it, and that of the boundary of the two
  pub valley : Option (Fraction × Fraction)
  -- the number of its component
  pub component : Option ℕ

-- a row in plain numbers: its peaks, or the number of its raw peaks where they are more than a row may have
pub data RowSeen : Type 0 where
  peaks : List PeakSeen → RowSeen
  too_many : ℕ → RowSeen

-- a ratio in lowest terms
abbrev pub ratio_seen : Ratio → Fraction
ratio_seen ratio = lowest_terms ratio.num ratio.den

-- two heights in lowest terms, where there are some
abbrev pub heights_seen : Option (Ratio × Ratio) → Option (Fraction × Fraction)
heights_seen heights = option_map (λ both. (ratio_seen both.0, ratio_seen both.1)) heights

-- a peak of an answer in plain numbers
abbrev pub peak_seen : Peak → PeakSeen
peak_seen peak = record {
  start = peak.start;
  apex = peak.apex;
  end = peak.end;
  rider = peak.rider;
  line = peak.line;
  time_us = peak.time_us;
  area = ratio_seen peak.area;
  units = peak.units;
  height = ratio_seen peak.height;
  half = peak.half;
  twentieth = peak.twentieth;
  valley = heights_seen peak.valley;
  component = peak.component;
}

-- an answer in plain numbers
abbrev pub seen : Answer → RowSeen
seen (Peaks list) = peaks (map peak_seen list)
seen (TooMany number) = too_many number

-- the height of a part in lowest terms
abbrev pub height_of : Measured → Fraction
height_of part = lowest_terms part.height (span part.shape.line)

-- the height of the part before a part, and that of the boundary of the two
abbrev pub heights_of : Signal → Measured → Measured → Fraction × Fraction
heights_of signal before part = (height_of before, lowest_terms (boundary_height signal part) (span part.shape.line))

-- the same, where the boundary is a valley
abbrev pub valley_of : Signal → Fields → Found → Option (Fraction × Fraction)
valley_of signal fields found =
    option_map (λ before. heights_of signal before found.part) (neighbour signal fields found.before found.part)

-- what a row says of a part that isn't rejected, and of its component
abbrev pub peak_of : Signal → Fields → Option ℕ → Found → PeakSeen
peak_of signal fields component found = record {
  start = found.part.shape.start;
  apex = found.part.shape.apex;
  end = found.part.shape.end;
  rider = found.part.shape.rider;
  line = found.part.shape.line;
  time_us = time_of signal fields found;
  area = lowest_terms found.part.area (2 * span found.part.shape.line);
  units = reported_area signal found.part;
  height = height_of found.part;
  half = crossings_at signal found.part.shape HALF;
  twentieth = crossings_at signal found.part.shape TWENTIETH;
  valley = valley_of signal fields found;
  component = component;
}

-- the peaks of a row in their order, under this naming; the first of them has this number
abbrev pub peaks_of : Signal → Fields → List (Option ℕ) → ℕ → List Found → List PeakSeen
peaks_of signal fields naming number [] = []
peaks_of signal fields naming number (found ∷ rest) =
    peak_of signal fields (component_of naming number) found ∷ peaks_of signal fields naming (suc number) rest

-- the naming of peaks with these times that no wanted pair blocks: there is exactly one
abbrev pub naming_of : List Window → List ℕ → List (Option ℕ)
naming_of windows times = (exactly_one_naming windows times).naming

-- the row of a signal under what a method states and the events of the row
abbrev pub row_seen : Signal → Fields → List Event → RowSeen
row_seen signal fields manual =
    let raw = raw_peaks_of signal (settings_of fields manual) in
    let found = found_of signal fields manual in
    let naming = naming_of (windows_of fields) (map (time_of signal fields) found) in
    if nat_le (length raw) MOST_RAW_PEAKS then peaks (peaks_of signal fields naming 1 found) else too_many (length raw)
