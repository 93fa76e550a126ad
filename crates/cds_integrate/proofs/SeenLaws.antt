-- A row in plain numbers is determined.
use Rattle.std.proofs.Common.{◌≡◌, ℕ, suc, ◌*◌, ◌<◌, List, [], ◌∷◌, map, length, Option, Some}
use Rattle.std.proofs.Common.{None, option_map, ℤ, refl, ap, ap₂, ◌∙◌, arith, inl, inr}
use Rattle.std.specs.Prelude.{IfSome}
use Rattle.std.proofs.lemmas.Bool.{cases_Bool, le-leb, lt-leb}
use Rattle.cds_base.specs.declared.event.Event.{Event}
use Rattle.cds_base.specs.declared.peak.Ratio.{Ratio}
use Rattle.cds_base.specs.declared.peak.Peak.{Peak}
use Rattle.cds_frac.specs.Fraction.{lowest_terms}
use Rattle.cds_frac.proofs.LowestTerms.{lowest_terms-same}
use Rattle.cds_rules.specs.Fields.{Fields, row_events}
use Rattle.cds_trace.specs.Signal.{Signal, IsTrace}
use Rattle.cds_trace.specs.Heights.{span}
use Rattle.cds_area.specs.Area.{IsRatio}
use Rattle.cds_detect.specs.Settings.{settings_of}
use Rattle.cds_detect.specs.Raw.{raw_peaks_of}
use Rattle.cds_detect.specs.declared.raw.TheConstants.{MOST_RAW_PEAKS}
use Rattle.cds_names.proofs.Existence.{exactly_one_naming}
use Rattle.cds_integrate.specs.Measures.{Measured}
use Rattle.cds_integrate.specs.Peaks.{Found, boundary_height, is_valley_between, neighbour, IsValley, IsPeak, ArePeaks}
use Rattle.cds_integrate.specs.Peaks.{component_of, time_of}
use Rattle.cds_integrate.specs.Row.{Answer, Peaks, TooMany, row_clusters, windows_of, found_of, IsRow}
use Rattle.cds_integrate.specs.Seen.{PeakSeen, peaks, too_many, ratio_seen, peak_seen, heights_seen, seen}
use Rattle.cds_integrate.specs.Seen.{heights_of, peak_of, peaks_of, naming_of, row_seen}
use Rattle.cds_integrate.specs.Standing.{IsShape}
use Rattle.cds_integrate.proofs.ConservationLaws.{row-clusters}
use Rattle.cds_integrate.proofs.StandLaws.{IsHigh, AreHigh, found-high}

-- a ratio that is a number, in lowest terms
ratio-is : (ratio : Ratio) (num : ℤ) (den : ℕ) → 0 < den → IsRatio ratio num den →
    ratio_seen ratio ≡ lowest_terms num den
ratio-is ratio num den some is = lowest_terms-same ratio.num num ratio.den den (omega (arith, ratio.positive)) some is

-- the line of a part has samples
line-some : (signal : Signal) (part : Measured) → IsShape signal part.shape → 0 < span part.shape.line
line-some signal part is = omega (arith, is.from, is.order, is.to)

-- what holds of the part before holds of it where it is a neighbour
neighbour-line : (signal : Signal) (fields : Fields) (before : Option Measured) (part : Measured) →
    IfSome before (λ b. IsShape signal b.shape) →
    IfSome (neighbour signal fields before part) (λ b. 0 < span b.shape.line)
neighbour-line signal fields None part is = tt
neighbour-line signal fields (Some before) part is = elim (cases_Bool (is_valley_between signal fields before part)) [
  | inl e ↦ rw e (line-some signal before is)
  | inr e ↦ rw e tt
]

-- the heights of a valley, in lowest terms
valley-is : (signal : Signal) (part : Measured) (before : Option Measured) (valley : Option (Ratio × Ratio)) →
    IfSome before (λ b. 0 < span b.shape.line) → 0 < span part.shape.line → IsValley signal part before valley →
    heights_seen valley ≡ option_map (λ b. heights_of signal b part) before
valley-is signal part None None lines some is = refl
valley-is signal part None (Some heights) lines some is = absurd is
valley-is signal part (Some before) None lines some is = absurd is
valley-is signal part (Some before) (Some heights) lines some is =
    rw (
      ratio-is heights.0 before.height (span before.shape.line) lines is.0,
      ratio-is heights.1 (boundary_height signal part) (span part.shape.line) some is.1,
    ) refl

-- a peak in plain numbers is what its part gives
peak-is : (signal : Signal) (fields : Fields) (component : Option ℕ) (found : Found) (peak : Peak) →
    IsHigh signal found →
    IsPeak signal fields component found peak → peak_seen peak ≡ peak_of signal fields component found
peak-is signal fields component found peak high is =
    let some : 0 < span found.part.shape.line = line-some signal found.part high.shape in
    let area = ratio-is peak.area found.part.area (2 * span found.part.shape.line) (omega (arith, some)) is.area in
    let height = ratio-is peak.height found.part.height (span found.part.shape.line) some is.height in
    let valley = valley-is signal found.part (neighbour signal fields found.before found.part) peak.valley
    (neighbour-line signal fields found.before found.part high.before) some is.valley in
    rw (
      area,
      height,
      valley,
      is.start,
      is.apex,
      is.end,
      is.rider,
      is.line,
      is.time,
      is.units,
      is.half,
      is.twentieth,
      is.component_is,
    ) refl

peaks-are : (signal : Signal) (fields : Fields) (naming : List (Option ℕ)) (number : ℕ) (found : List Found)
    (list : List Peak) →
    AreHigh signal found → ArePeaks signal fields naming number found list →
    map peak_seen list ≡ peaks_of signal fields naming number found
peaks-are signal fields naming number [] [] high are = refl
peaks-are signal fields naming number [] (peak ∷ list) high are = absurd are
peaks-are signal fields naming number (one ∷ found) [] high are = absurd are
peaks-are signal fields naming number (one ∷ found) (peak ∷ list) high are =
    ap₂ (λ (p : PeakSeen) (ps : List PeakSeen). p ∷ ps) (peak-is signal fields
    (component_of naming number) one peak high.0 are.0)
    (peaks-are signal fields naming (suc number) found list high.1 are.1)

-- every answer that may be the row is the one that the signal, the fields and the events give
pub seen-is : (signal : Signal) (fields : Fields) (manual : List Event) (row : Answer) → IsTrace signal →
    IsRow signal fields manual row →
    seen row ≡ row_seen signal fields manual
seen-is signal fields manual (Peaks list) trace is =
    let found : List Found = found_of signal fields manual in
    let high = found-high signal fields (row_events fields manual) 0 (row_clusters signal fields manual) trace
    (row-clusters signal fields manual trace) in
    let only = (exactly_one_naming (windows_of fields) (map (time_of signal fields) found)).only in
    let naming : is.1.naming ≡ naming_of (windows_of fields) (map (time_of signal fields) found) =
    only is.1.naming is.1.unblocked in
    let few = le-leb (length (raw_peaks_of signal (settings_of fields manual))) MOST_RAW_PEAKS is.0 in
    rw few (ap peaks (peaks-are signal fields is.1.naming 1 found list high is.1.peaks_are ∙ ap
    (λ n. peaks_of signal fields n 1 found) naming))
seen-is signal fields manual (TooMany number) trace is =
    let many = lt-leb MOST_RAW_PEAKS (length (raw_peaks_of signal (settings_of fields manual))) in
    let more : MOST_RAW_PEAKS < length (raw_peaks_of signal (settings_of fields manual)) = omega (arith, is.0, is.1) in
    rw (lt-leb (length (raw_peaks_of signal (settings_of fields manual))) MOST_RAW_PEAKS more) (ap too_many is.1)
