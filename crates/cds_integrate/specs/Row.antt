-- A row: what a trace, a method and the manual events of a row give. This project's own rules.
use Rattle.std.specs.Prelude.{◌≡◌, ℕ, ◌+◌, ◌-◌, ◌*◌, ◌<◌, ◌≤◌, List, [], All, map, length, Option, Some, IfSome}
use Rattle.std.specs.Prelude.{pos}
use Rattle.std.specs.Prelude.{◌<ℤ◌, unsigned_abs}
use Rattle.std.specs.List.{flat_map, AllPairs}
use Rattle.cds_base.specs.declared.peak.TheConstants.{AREA_LIMIT, HEIGHT_LIMIT}
use Rattle.cds_base.specs.declared.time.TheConstants.{LAST_TIME_US, MILLISECOND_US}
use Rattle.cds_base.specs.declared.event.Event.{Event}
use Rattle.cds_base.specs.declared.peak.Peak.{Peak}
use Rattle.cds_base.specs.declared.Window.{Window}
use Rattle.cds_base.specs.declared.cluster.Cluster.{Cluster}
use Rattle.cds_rules.specs.Fields.{Fields, row_events}
use Rattle.cds_rules.specs.declared.component.Component.{Component}
use Rattle.cds_trace.specs.Signal.{Signal}
use Rattle.cds_detect.specs.Settings.{settings_of}
use Rattle.cds_detect.specs.Raw.{raw_peaks_of}
use Rattle.cds_detect.specs.declared.raw.TheConstants.{MOST_RAW_PEAKS}
use Rattle.cds_events.specs.Drops.{drop_count}
use Rattle.cds_events.specs.Arrangement.{clusters_under}
use Rattle.cds_trace.specs.Standing.{IsCrest}
use Rattle.cds_names.specs.Naming.{IsUnblocked}
use Rattle.cds_integrate.specs.Shapes.{shapes_of}
use Rattle.cds_integrate.specs.Measures.{Measured, measured}
use Rattle.cds_integrate.specs.Peaks.{Found, accepted, time_of, ArePeaks}

-- what a row answers: its peaks, or the number of its raw peaks where they are more than a row may have
pub data Answer : Type 0 where
  Peaks : List Peak → Answer
  TooMany : ℕ → Answer

-- the clusters of a row
abbrev pub row_clusters : Signal → Fields → List Event → List Cluster
row_clusters signal fields manual =
    clusters_under signal fields manual (raw_peaks_of signal (settings_of fields manual))

-- the parts of a cluster, rejected ones included
abbrev pub parts_in : Signal → List Event → Cluster → List Measured
parts_in signal events cluster = measured signal (shapes_of signal events cluster)

-- all parts of a row
abbrev pub parts_of : Signal → Fields → List Event → List Measured
parts_of signal fields manual =
    flat_map (parts_in signal (row_events fields manual)) (row_clusters signal fields manual)

-- those of a cluster that aren't rejected
abbrev pub found_in : Signal → Fields → List Event → Cluster → List Found
found_in signal fields events cluster = accepted signal fields (parts_in signal events cluster)

-- and those of a row
abbrev pub found_of : Signal → Fields → List Event → List Found
found_of signal fields manual =
    flat_map (found_in signal fields (row_events fields manual)) (row_clusters signal fields manual)

-- where a component is looked for, in microseconds
abbrev pub window_of : Component → Window
window_of component =
    record { time_us = MILLISECOND_US * component.time_ms; width_us = MILLISECOND_US * component.window_ms }

-- where the components of a method are looked for
abbrev pub windows_of : Fields → List Window
windows_of fields = map window_of fields.components

-- peaks of these parts, named over their times by the naming that no wanted pair blocks
pub record AreNamed (signal : Signal) (fields : Fields) (found : List Found) (peaks : List Peak) : Type 0 where
  pub naming : List (Option ℕ)
  pub unblocked : IsUnblocked (windows_of fields) (map (time_of signal fields) found) naming
  pub peaks_are : ArePeaks signal fields naming 1 found peaks

-- the row of a trace: its peaks, or the number of raw peaks where there are more than a row may have
abbrev pub IsRow : Signal → Fields → List Event → Answer → Type 0
IsRow signal fields manual (Peaks peaks) =
    (length (raw_peaks_of signal (settings_of fields manual)) ≤ MOST_RAW_PEAKS)
    × AreNamed signal fields (found_of signal fields manual) peaks
IsRow signal fields manual (TooMany number) =
    (MOST_RAW_PEAKS < number) × (number ≡ length (raw_peaks_of signal (settings_of fields manual)))

-- the peaks of an answer; one with too many raw peaks has none
abbrev pub peaks_in : Answer → List Peak
peaks_in (Peaks peaks) = peaks
peaks_in (TooMany number) = []

-- the number of raw peaks where they are too many, else 0
abbrev pub too_many_in : Answer → ℕ
too_many_in (Peaks peaks) = 0
too_many_in (TooMany number) = number

-- the component of a peak, where it has one, is one of so many
abbrev pub IsOfOne : ℕ → Peak → Type 0
IsOfOne components peak = IfSome peak.component (λ c. (1 ≤ c) × (c ≤ components))

-- no two of these peaks are of one component
abbrev pub AreOfTheirOwn : List Peak → Type 0
AreOfTheirOwn peaks = AllPairs (λ a b. (c : ℕ) → a.component ≡ Some c → b.component ≡ Some c → ⊥) peaks

-- each peak is of one of the method's components, or of none, and no two are of one
pub record AreComponents (fields : Fields) (peaks : List Peak) : Type 0 where
  pub each : All (IsOfOne (length fields.components)) peaks
  pub apart : AreOfTheirOwn peaks

-- so many peaks a row has at most: as many as it may have raw peaks, and one for each drop event
abbrev pub most_peaks : Fields → List Event → ℕ
most_peaks fields manual = MOST_RAW_PEAKS + drop_count (row_events fields manual)

-- what holds of the numbers of each peak of a row, whatever its trace is
pub record IsSound (peak : Peak) : Type 0 where
  -- its apex lies in its range
  pub rises : peak.start ≤ peak.apex
  pub falls : peak.apex ≤ peak.end
  -- its time lies within the longest trace
  pub time : peak.time_us ≤ LAST_TIME_US
  -- its area and height are positive, the area as reported is below the limit of areas
  pub area : pos 0 <ℤ peak.area.num
  pub high : pos 0 <ℤ peak.height.num
  pub units : peak.units < AREA_LIMIT
  -- the numerators of its height, of the one before and of the boundary are below the limit of heights
  pub height : unsigned_abs peak.height.num < HEIGHT_LIMIT
  pub before : IfSome peak.valley (λ heights. unsigned_abs heights.0.num < HEIGHT_LIMIT)
  pub boundary : IfSome peak.valley (λ heights. (unsigned_abs heights.1.num < HEIGHT_LIMIT) × (pos 0 <ℤ heights.1.num))
  -- its crossings lie apart, and within the longest trace
  pub half : IfSome peak.half (λ times. (times.0 < times.1) × (times.1 ≤ LAST_TIME_US))
  pub twentieth : IfSome peak.twentieth (λ times. (times.0 < times.1) × (times.1 ≤ LAST_TIME_US))

-- two times lie around the apex of a peak: the first before it, the second not behind the last sample
abbrev pub LieAround : Signal → Peak → ℕ × ℕ → Type 0
LieAround signal peak times =
    (times.0 < peak.apex * signal.period) × (times.1 ≤ (length signal.samples - 1) * signal.period)

-- what holds of where a peak stands in its trace
pub record StandsIn (signal : Signal) (peak : Peak) : Type 0 where
  pub ends : peak.end < length signal.samples
  -- the signal rises to its apex and doesn't rise behind it, where that lies strictly inside
  pub crest : peak.start < peak.apex → peak.apex < peak.end → IsCrest signal peak.apex
  -- its time isn't behind the last sample, and its crossings lie around its apex
  pub time : peak.time_us ≤ (length signal.samples - 1) * signal.period
  pub half : IfSome peak.half (LieAround signal peak)
  pub twentieth : IfSome peak.twentieth (LieAround signal peak)
