-- How the list of raw peaks grows as the search for them goes on.
use Rattle.std.proofs.Common.{◌≡◌, ℕ, ◌+◌, ◌*◌, ◌<◌, ◌≤◌, true, false, List, [], ◌∷◌, ◌++◌, length, refl, arith, ap, sym, ◌∙◌, inl, inr, append_assoc}
use Rattle.std.specs.List.{filter}
use Rattle.std.proofs.Math.Nat.{mul-le-mul_right}
use Rattle.std.proofs.lemmas.Bool.{cases_lt, cases_Bool}
use Rattle.cds_base.specs.declared.peak.RawPeak.{RawPeak}
use Rattle.cds_trace.specs.Signal.{Signal}
use Rattle.cds_detect.specs.declared.class.Class.{Class}
use Rattle.cds_detect.specs.Classes.{Settings, class_count, classes}
use Rattle.cds_detect.specs.Spans.{Span, is_down, class_at, next_up, climb, fall, later_spans}
use Rattle.cds_detect.specs.Raw.{end_sample, peak_between, peak_of, is_peak, peaks_of}
use Rattle.cds_trace.proofs.LeastLaws.{least-low}
use Rattle.cds_detect.proofs.SpansLaws.{climb-low, down-before, fall-low, later_spans-end, later_spans-none, later_spans-abandoned, later_spans-peak}
use Rattle.cds_detect.proofs.ClassesLaws.{length-classes}
use Rattle.cds_detect.proofs.PlaceLaws.{end_sample-class, end_sample-behind, end_sample-within}

-- the raw peaks that begin at class k or behind it
abbrev pub peaks_on : Signal → Settings → ℕ → List RawPeak
peaks_on signal settings k = peaks_of signal settings.bunch (later_spans (classes signal settings) settings.plateau k)

-- the search ends where no climb begins any more
pub turn-ended : (signal : Signal) (settings : Settings) (k s : ℕ) → k < class_count (length signal.samples) settings.bunch → s ≡ next_up (classes signal settings) k → class_count (length signal.samples) settings.bunch ≤ s → peaks_on signal settings s ≡ peaks_on signal settings k
turn-ended signal settings k s l e past =
    let cs = classes signal settings in
    let many = length-classes signal settings in
    let none : length cs ≤ next_up cs k = omega arith in
    ap (peaks_of signal settings.bunch) (later_spans-end cs settings.plateau s (omega arith) ∙ sym (later_spans-none cs settings.plateau k (omega arith) none))

-- the next climb begins at k or behind it
pub turn-start : (signal : Signal) (settings : Settings) (k s : ℕ) → k < class_count (length signal.samples) settings.bunch → s ≡ next_up (classes signal settings) k → k ≤ s
turn-start signal settings k s l e =
    let cs = classes signal settings in
    let many = length-classes signal settings in
    let low : k ≤ next_up cs k = least-low _ _ _ (omega arith) in
    omega arith

-- a climb ends behind its start
pub turn-top : (signal : Signal) (settings : Settings) (s top : ℕ) → s < class_count (length signal.samples) settings.bunch → top ≡ climb (classes signal settings) settings.plateau s → s < top
turn-top signal settings s top l e =
    let cs = classes signal settings in
    let many = length-classes signal settings in
    let low : s < climb cs settings.plateau s = climb-low cs settings.plateau s (omega arith) in
    omega arith

-- a climb that ends in no fall adds no peak
pub turn-abandoned : (signal : Signal) (settings : Settings) (k s top : ℕ) (class : Class) → k < class_count (length signal.samples) settings.bunch → s ≡ next_up (classes signal settings) k → top ≡ climb (classes signal settings) settings.plateau s → class ≡ class_at (classes signal settings) top → is_down class ≡ false → peaks_on signal settings top ≡ peaks_on signal settings k
turn-abandoned signal settings k s top class l e f c down =
    let cs = classes signal settings in
    let many = length-classes signal settings in
    ap (peaks_of signal settings.bunch) (sym (later_spans-abandoned cs settings.plateau k s top (omega arith) e f (rw (← c) down)))

-- where a class is down there is a class, and the fall ends behind it
pub turn-down : (signal : Signal) (settings : Settings) (top : ℕ) (class : Class) → class ≡ class_at (classes signal settings) top → is_down class ≡ true → top < class_count (length signal.samples) settings.bunch
turn-down signal settings top class c down =
    let many = length-classes signal settings in
    let l = down-before (classes signal settings) top (rw (← c) down) in
    omega arith

pub turn-end : (signal : Signal) (settings : Settings) (top end : ℕ) (class : Class) → class ≡ class_at (classes signal settings) top → is_down class ≡ true → end ≡ fall (classes signal settings) top → top < end
turn-end signal settings top end class c down e =
    let low : top < fall (classes signal settings) top = fall-low (classes signal settings) top (rw (← c) down) in
    omega arith

-- the peak of the first span stands before those of the rest
peaks_of-cons : (signal : Signal) (bunch : ℕ) (span : Span) (spans : List Span) → peaks_of signal bunch (span ∷ spans) ≡ filter is_peak (peak_of signal bunch span ∷ []) ++ peaks_of signal bunch spans
peaks_of-cons signal bunch span spans = elim (cases_Bool (is_peak (peak_of signal bunch span))) [
  | inl is ↦ rw is refl
  | inr isnt ↦ rw isnt refl
]

-- a climb that ends in a fall adds its peak, if it is one
pub turn-peak : (signal : Signal) (settings : Settings) (k s top end from to : ℕ) (class : Class) (old new : List RawPeak) → k < class_count (length signal.samples) settings.bunch → s ≡ next_up (classes signal settings) k → top ≡ climb (classes signal settings) settings.plateau s → class ≡ class_at (classes signal settings) top → is_down class ≡ true → end ≡ fall (classes signal settings) top → from ≡ s * settings.bunch → to ≡ end_sample signal settings.bunch end → new ≡ old ++ filter is_peak (peak_between signal from to ∷ []) → new ++ peaks_on signal settings end ≡ old ++ peaks_on signal settings k
turn-peak signal settings k s top end from to class old new l e f c down h a b kept =
    let cs = classes signal settings in
    let many = length-classes signal settings in
    let span : Span = record { start = s; end = end } in
    let found : later_spans cs settings.plateau k ≡ span ∷ later_spans cs settings.plateau end = later_spans-peak cs settings.plateau k s top end (omega arith) e f (rw (← c) down) h in
    let first : new ≡ old ++ filter is_peak (peak_of signal settings.bunch span ∷ []) = rw (← a, ← b) kept in
    rw first (append_assoc old (filter is_peak (peak_of signal settings.bunch span ∷ [])) (peaks_on signal settings end) ∙ ap (λ more. old ++ more) (sym (ap (peaks_of signal settings.bunch) found ∙ peaks_of-cons signal settings.bunch span (later_spans cs settings.plateau end))))

-- places of the search in samples: they rise
pub end_sample-rises : (signal : Signal) (bunch k e : ℕ) → 1 ≤ bunch → k < class_count (length signal.samples) bunch → k ≤ e → e ≤ class_count (length signal.samples) bunch → end_sample signal bunch k ≤ end_sample signal bunch e
end_sample-rises signal bunch k e some l m n = elim (cases_lt k e) [
  | inl before ↦ rw (end_sample-class signal bunch k l) (omega (arith, end_sample-behind signal bunch k e some before n))
  | inr same ↦ (let e : k ≡ e = omega arith in rw e (omega arith))
]

pub end_sample-start : (signal : Signal) (bunch k s : ℕ) → k ≤ s → s < class_count (length signal.samples) bunch → end_sample signal bunch k ≤ s * bunch
end_sample-start signal bunch k s l m = rw (end_sample-class signal bunch k (omega arith)) (mul-le-mul_right bunch l)

-- how the places of a turn follow one another, where its climb ends in a fall
pub record Turned (signal : Signal) (settings : Settings) (k s top end : ℕ) : Type 0 where
  pub low : k ≤ s
  pub rises : s < top
  pub falls : top < end
  -- the same in samples, and the fall ends within the trace
  pub near : end_sample signal settings.bunch k ≤ s * settings.bunch
  pub far : s * settings.bunch + 1 ≤ end_sample signal settings.bunch end
  pub last : end_sample signal settings.bunch end + 1 ≤ length signal.samples

pub turned : (signal : Signal) (settings : Settings) (k s top end : ℕ) (class : Class) → 1 ≤ settings.bunch →
    2 ≤ length signal.samples → k < class_count (length signal.samples) settings.bunch →
    s ≡ next_up (classes signal settings) k → s < class_count (length signal.samples) settings.bunch →
    top ≡ climb (classes signal settings) settings.plateau s → class ≡ class_at (classes signal settings) top →
    is_down class ≡ true → end ≡ fall (classes signal settings) top →
    end ≤ class_count (length signal.samples) settings.bunch → Turned signal settings k s top end
turned signal settings k s top end class some enough k_in s_is s_in top_is class_is down end_is end_in =
    let low : k ≤ s = turn-start signal settings k s k_in s_is in
    let rises : s < top = turn-top signal settings s top s_in top_is in
    let falls : top < end = turn-end signal settings top end class class_is down end_is in
    record {
      low = low;
      rises = rises;
      falls = falls;
      near = end_sample-start signal settings.bunch k s low s_in;
      far = end_sample-behind signal settings.bunch s end some (omega arith) end_in;
      last = end_sample-within signal settings.bunch end some enough end_in;
    }
