-- Where the peaks of a row stand in its trace.
use Rattle.std.proofs.Common.{◌≡◌, ℕ, zero, suc, ◌+◌, ◌-◌, ◌*◌, ◌<◌, ◌≤◌, true, false, List, [], ◌∷◌, ◌++◌, All, length}
use Rattle.std.proofs.Common.{Option, Some, None, ℤ, pos, ◌-ℤ◌, ◌≤ℤ◌, ◌<ℤ◌, option_map, inl, inr, arith}
use Rattle.std.specs.Prelude.{IfSome, int_le, nat_lt, ◌&&◌, ◌==◌, unsigned_abs}
use Rattle.std.specs.List.{flat_map, find, range_with_len}
use Rattle.std.proofs.lemmas.Bool.{cases_Bool, and_parts, ltb-true}
use Rattle.std.proofs.lemmas.Int.{ints}
use Rattle.std.proofs.Math.Nat.{mul-le-mul_right}
use Rattle.cds_base.specs.declared.event.Event.{Event}
use Rattle.cds_base.specs.declared.peak.Line.{Line}
use Rattle.cds_base.specs.declared.peak.Peak.{Peak}
use Rattle.cds_base.specs.declared.cluster.Cluster.{Cluster}
use Rattle.cds_rules.specs.Fields.{Fields, row_events}
use Rattle.cds_trace.specs.Signal.{Signal, IsTrace, sample_at}
use Rattle.cds_trace.specs.Standing.{IsCrest}
use Rattle.cds_trace.specs.Heights.{height_by_span}
use Rattle.cds_figures.specs.Crossings.{last_passing, is_down_to, scaled_height, scaled_level, meeting_time, meets_at}
use Rattle.cds_figures.specs.Crossings.{left_crossing, right_crossing, both}
use Rattle.cds_figures.specs.declared.times.TheConstants.{VERTEX_RULES}
use Rattle.cds_figures.specs.PeakTime.{bend_at, vertex_offset, is_at_vertex}
use Rattle.cds_figures.proofs.TimeLaws.{abs-offset-le, vertex-inside}
use Rattle.cds_figures.proofs.CrossingLaws.{nearer_low, nearer_high}
use Rattle.cds_figures.proofs.NumberLaws.{part-le, part-lt, mul-lt}
use Rattle.cds_events.specs.Standing.{ClustersFrom}
use Rattle.cds_integrate.specs.declared.peaks.TheConstants.{HALF, TWENTIETH}
use Rattle.cds_integrate.specs.Shapes.{Shape}
use Rattle.cds_integrate.specs.Measures.{Measured}
use Rattle.cds_integrate.specs.Peaks.{Found}
use Rattle.cds_integrate.specs.Row.{Answer, Peaks, TooMany}
use Rattle.cds_integrate.specs.Shapes.{shapes_of}
use Rattle.cds_integrate.specs.Measures.{measure, measured, is_rejected}
use Rattle.cds_integrate.specs.Peaks.{with_before, kept_of, crossings_at, ArePeaks, IsPeak, component_of, time_of}
use Rattle.cds_integrate.specs.Row.{row_clusters, found_in, found_of, peaks_in, IsRow, StandsIn}
use Rattle.cds_integrate.specs.Standing.{IsShape, InRow}
use Rattle.cds_integrate.proofs.PeakLaws.{kept-positive}
use Rattle.cds_integrate.proofs.FoundLaws.{kept-yes, kept-no, cluster-anywhere}
use Rattle.cds_integrate.proofs.TangentLaws.{cluster-row}
use Rattle.cds_integrate.proofs.ConservationLaws.{row-clusters}

-- a rise meets a level before it ends, and a fall does at the latest where it ends
meets-before : (period i : ℕ) (from to level : ℤ) → 0 < period → from ≤ℤ level → level <ℤ to →
    meeting_time period i from to level < (i + 1) * period
meets-before period i from to level some low high =
    let short = part-lt period (unsigned_abs (level -ℤ from)) (unsigned_abs (to -ℤ from))
    (nearer_low from to level low high) some in
    omega (arith, short)

meets-within : (period i : ℕ) (from to level : ℤ) → to ≤ℤ level → level <ℤ from →
    meeting_time period i from to level ≤ (i + 1) * period
meets-within period i from to level low high =
    let short = part-le period (unsigned_abs (level -ℤ from)) (unsigned_abs (to -ℤ from))
    (nearer_high to from level low high) in
    omega (arith, short)

down : (x y : ℤ) → int_le x y ≡ true → x ≤ℤ y
down x y is = grind (arith, ints)

up : (x y : ℤ) → int_le x y ≡ false → y <ℤ x
up x y is = grind (arith, ints)

-- a left crossing lies before the apex
left-before : (signal : Signal) (line : Line) (level : ℤ) (apex start count : ℕ) → 0 < signal.period →
    start + count ≤ apex →
    level <ℤ scaled_height signal line (start + count) →
    IfSome (option_map (meets_at signal line level) (last_passing (is_down_to signal line level) start count))
    (λ t. t < apex * signal.period)
left-before signal line level apex start zero some within above = tt
left-before signal line level apex start (suc count) some within above =
    let next : start + suc count ≡ start + count + 1 = omega arith in
    let high : level <ℤ scaled_height signal line (start + count + 1) = rw next at above in
    elim (cases_Bool (is_down_to signal line level (start + count))) [
      | inl is ↦
          let met = meets-before signal.period (start + count) (scaled_height signal line (start + count))
          (scaled_height signal line (start + count + 1)) level some
          (down (scaled_height signal line (start + count)) level is) high in
          let last : (start + count + 1) * signal.period ≤ apex * signal.period =
          mul-le-mul_right signal.period (omega (arith, within)) in
          rw is (omega (arith, met, last))
      | inr other ↦
          rw other (left-before signal line level apex start count some (omega (arith, within))
          (up (scaled_height signal line (start + count)) level other))
    ]

-- a right crossing doesn't lie behind the end
right-within : (signal : Signal) (line : Line) (level : ℤ) (end at count : ℕ) → at + count ≤ end →
    level <ℤ scaled_height signal line at →
    IfSome (option_map (λ i. meets_at signal line level (i - 1))
    (find (is_down_to signal line level) (range_with_len (suc at) count))) (λ t. t ≤ end * signal.period)
right-within signal line level end at zero within above = tt
right-within signal line level end at (suc count) within above =
    let next : at + 1 ≡ suc at = omega arith in
    let here : suc at - 1 ≡ at = omega arith in
    let more : suc at + 1 ≡ suc (suc at) = omega arith in
    elim (cases_Bool (is_down_to signal line level (suc at))) [
      | inl is ↦
          let low : scaled_height signal line (at + 1) ≤ℤ level =
          rw next (down (scaled_height signal line (suc at)) level is) in
          let met = meets-within signal.period at (scaled_height signal line at)
          (scaled_height signal line (at + 1)) level low above in
          let last : (at + 1) * signal.period ≤ end * signal.period =
          mul-le-mul_right signal.period (omega (arith, within)) in
          rw (is, here) (omega (arith, met, last))
      | inr other ↦
          rw (other, more) (right-within signal line level end (suc at) count (omega (arith, within))
          (up (scaled_height signal line (suc at)) level other))
    ]

-- what holds of each of two crossings holds of both
both-some : (P Q : ℕ → Type 0) (left right : Option ℕ) → IfSome left P → IfSome right Q →
    IfSome (both left right) (λ times. P times.0 × Q times.1)
both-some P Q None right p q = tt
both-some P Q (Some a) None p q = tt
both-some P Q (Some a) (Some b) p q = (p, q)

crossings-stand : (signal : Signal) (shape : Shape) (twentieths : ℕ) → IsTrace signal → IsShape signal shape →
    twentieths < 20 →
    pos 0 <ℤ height_by_span signal shape.line shape.apex →
    IfSome (crossings_at signal shape twentieths) (λ times. (times.0 < shape.apex * signal.period) ×
    (times.1 ≤ (length signal.samples - 1) * signal.period))
crossings-stand signal shape twentieths trace is few high =
    let level : ℤ = scaled_level signal shape.line shape.apex twentieths in
    let last : ℕ = length signal.samples - 1 in
    let top : level <ℤ scaled_height signal shape.line shape.apex =
    mul-lt (height_by_span signal shape.line shape.apex) twentieths 20 high few in
    let rise : shape.start + (shape.apex - shape.start) ≡ shape.apex = omega (arith, is.low) in
    let next : shape.apex + 1 ≡ suc shape.apex = omega arith in
    both-some (λ t. t < shape.apex * signal.period) (λ t. t ≤ last * signal.period)
    (left_crossing signal shape.line level shape.start shape.apex)
    (right_crossing signal shape.line level shape.apex shape.end)
    (left-before signal shape.line level shape.apex shape.start (shape.apex - shape.start)
    (omega (arith, trace.period)) (omega (arith, is.low)) (rw rise top))
    (rw next (right-within signal shape.line level last shape.apex (shape.end - shape.apex)
    (omega (arith, is.high, is.to, is.within)) top))

-- the time of a part isn't behind the last sample
pub time-inside : (signal : Signal) (fields : Fields) (found : Found) → IsTrace signal →
    IsShape signal found.part.shape →
    time_of signal fields found ≤ (length signal.samples - 1) * signal.period
time-inside signal fields found trace is =
    let start : ℕ = found.part.shape.start in
    let apex : ℕ = found.part.shape.apex in
    let end : ℕ = found.part.shape.end in
    let last : ℕ = length signal.samples - 1 in
    elim (cases_Bool (is_at_vertex fields.rules start apex end)) [
      | inl vertex ↦
          let tests = and_parts (nat_lt start apex) (nat_lt apex end)
          (and_parts (fields.rules == VERTEX_RULES) (nat_lt start apex && nat_lt apex end) vertex).1 in
          let rise : start < apex = ltb-true start apex tests.0 in
          let fall : apex < end = ltb-true apex end tests.1 in
          let crest : IsCrest signal apex = is.crest rise fall in
          let near = abs-offset-le signal.period (sample_at signal (apex + 1) -ℤ sample_at signal (apex - 1))
          (bend_at signal apex)
          (omega (arith, ints, crest.rises, crest.falls)) (omega (arith, ints, crest.rises, crest.falls)) in
          let inside = vertex-inside start apex end signal.period (vertex_offset signal apex) rise fall near in
          rw vertex (omega (
            arith,
            inside.before,
            mul-le-mul_right {m = end} {n = last} signal.period
                (omega (arith, is.to, is.within)),
          ))
      | inr other ↦ rw other (mul-le-mul_right {m = apex} {n = last} signal.period
          (omega (arith, is.high, is.to, is.within)))
    ]

-- a part that isn't rejected lies on its line, and its apex above it; so does the one before it lie on its own
pub record IsHigh (signal : Signal) (found : Found) : Type 0 where
  pub shape : IsShape signal found.part.shape
  pub high : pos 0 <ℤ height_by_span signal found.part.shape.line found.part.shape.apex
  pub before : IfSome found.before (λ before. IsShape signal before.shape)

abbrev pub AreHigh : Signal → List Found → Type 0
AreHigh signal [] = Unit {0}
AreHigh signal (one ∷ found) = IsHigh signal one × AreHigh signal found

high-append : (signal : Signal) (xs ys : List Found) → AreHigh signal xs → AreHigh signal ys → AreHigh signal (xs ++ ys)
high-append signal [] ys a b = b
high-append signal (x ∷ xs) ys a b = (a.0, high-append signal xs ys a.1 b)

kept-high : (signal : Signal) (fields : Fields) (before : Option Measured) (shapes : List Shape) (start end : ℕ) →
    IfSome before (λ before. IsShape signal before.shape) → InRow signal start shapes end →
    AreHigh signal (kept_of signal fields (with_before before (measured signal shapes)))
kept-high signal fields before [] start end first row = tt
kept-high signal fields before (shape ∷ later) start end first row =
    let part : Measured = measure signal shape later in
    let one : Found = record { before = before; part = part } in
    let others : List Found = with_before (Some part) (measured signal later) in
    let rest = kept-high signal fields (Some part) later shape.reach end row.1 row.3 in
    elim (cases_Bool (is_rejected signal fields part)) [
      | inl is ↦ rw (kept-no signal fields one others is) rest
      | inr other ↦ rw (kept-yes signal fields one others other)
          (record { shape = row.1; high = (kept-positive signal fields part other).1; before = first }, rest)
    ]

pub found-high : (signal : Signal) (fields : Fields) (events : List Event) (at : ℕ) (clusters : List Cluster) →
    IsTrace signal → ClustersFrom signal at clusters →
    AreHigh signal (flat_map (found_in signal fields events) clusters)
found-high signal fields events at [] trace from = tt
found-high signal fields events at (cluster ∷ clusters) trace from =
    let row = cluster-row signal events cluster trace (cluster-anywhere signal at cluster from.0) in
    high-append signal (found_in signal fields events cluster) (flat_map (found_in signal fields events) clusters)
    (kept-high signal fields None (shapes_of signal events cluster) cluster.start cluster.end tt row)
    (found-high signal fields events cluster.end clusters trace from.1)

-- a peak stands as its part does
peak-stands : (signal : Signal) (fields : Fields) (component : Option ℕ) (found : Found) (peak : Peak) →
    IsTrace signal → IsHigh signal found →
    IsPeak signal fields component found peak → StandsIn signal peak
peak-stands signal fields component found peak trace is same = record {
  ends = rw same.end (omega (arith, is.shape.to, is.shape.within));
  crest = rw (same.start, same.apex, same.end) is.shape.crest;
  time = rw same.time (time-inside signal fields found trace is.shape);
  half = rw (same.half, same.apex) (crossings-stand signal found.part.shape HALF trace is.shape (omega arith) is.high);
  twentieth = rw (same.twentieth, same.apex) (crossings-stand signal found.part.shape TWENTIETH trace is.shape
      (omega arith) is.high);
}

all-stand : (signal : Signal) (fields : Fields) (naming : List (Option ℕ)) (number : ℕ) (found : List Found)
    (peaks : List Peak) → IsTrace signal →
    AreHigh signal found → ArePeaks signal fields naming number found peaks → All (StandsIn signal) peaks
all-stand signal fields naming number [] [] trace high are k d below = absurd (omega arith)
all-stand signal fields naming number [] (peak ∷ peaks) trace high are k d below = absurd are
all-stand signal fields naming number (one ∷ found) [] trace high are k d below = absurd are
all-stand signal fields naming number (one ∷ found) (peak ∷ peaks) trace high are zero d below =
    peak-stands signal fields (component_of naming number) one peak trace high.0 are.0
all-stand signal fields naming number (one ∷ found) (peak ∷ peaks) trace high are (suc k) d below =
    all-stand signal fields naming (suc number) found peaks trace high.1 are.1 k d (omega arith)

-- the peaks of each row
pub peaks-stand : (signal : Signal) (fields : Fields) (manual : List Event) (row : Answer) → IsTrace signal →
    IsRow signal fields manual row →
    All (StandsIn signal) (peaks_in row)
peaks-stand signal fields manual (Peaks peaks) trace is =
    all-stand signal fields is.1.naming 1 (found_of signal fields manual) peaks trace
    (found-high signal fields (row_events fields manual) 0 (row_clusters signal fields manual) trace
    (row-clusters signal fields manual trace)) is.1.peaks_are
peaks-stand signal fields manual (TooMany number) trace is = λ k d below. absurd (omega arith)
