-- Raw peaks stand one after the other within the trace.
use Rattle.std.proofs.Common.{◌≡◌, ℕ, zero, suc, ◌+◌, ◌*◌, ◌<◌, ◌≤◌, nat_le, List, [], ◌∷◌, ◌++◌, map, length, refl, arith, sym, ◌∙◌, inl, inr, append-nil}
use Rattle.std.proofs.lemmas.List.{length-map}
use Rattle.std.specs.List.{filter}
use Rattle.std.proofs.lemmas.Bool.{cases_lt, cases_Bool, cond_both, and_parts, ltb-true}
use Rattle.cds_base.specs.declared.peak.RawPeak.{RawPeak}
use Rattle.cds_trace.specs.Signal.{Signal}
use Rattle.cds_trace.specs.Standing.{RawFrom}
use Rattle.cds_detect.specs.Classes.{Settings, class_count, classes}
use Rattle.cds_detect.specs.Spans.{Span, is_down, class_at, next_up, climb, fall, spans_from, later_spans, spans}
use Rattle.cds_detect.specs.declared.raw.Raw.TheVariants as variant
use Rattle.cds_detect.specs.declared.raw.TheConstants.{MOST_RAW_PEAKS}
use Rattle.cds_detect.specs.Raw.{end_sample, peak_of, is_peak, peaks_of, raw_peaks_of, answer_of, peaks_in}
use Rattle.cds_trace.proofs.LeastLaws.{least-low}
use Rattle.cds_detect.proofs.SpansLaws.{climb-low, climb-high, fall-low, fall-high, spans_from-past, span_from-past, behind-past, length-spans_from, later_spans-end}
use Rattle.cds_detect.proofs.ClassesLaws.{length-classes}
use Rattle.cds_detect.proofs.PlaceLaws.{end_sample-behind, end_sample-within}
use Rattle.cds_detect.proofs.TurnLaws.{peaks_on, end_sample-rises, end_sample-start}

-- peaks that stand behind a sample stand behind each earlier one
stand-earlier : (signal : Signal) (at before : ℕ) (peaks : List RawPeak) → before ≤ at → RawFrom signal at peaks → RawFrom signal before peaks
stand-earlier signal at before [] l h = tt
stand-earlier signal at before (peak ∷ peaks) l h = (record { follows = omega (arith, h.0.follows); rises = h.0.rises; falls = h.0.falls; apex = h.0.apex; ends = h.0.ends }, h.1)

-- the peak of one span in front of others
stand-cons : (signal : Signal) (bunch at : ℕ) (span : Span) (spans : List Span) → at ≤ span.start * bunch → end_sample signal bunch span.end < length signal.samples → at ≤ end_sample signal bunch span.end → RawFrom signal (end_sample signal bunch span.end) (peaks_of signal bunch spans) → RawFrom signal at (peaks_of signal bunch (span ∷ spans))
stand-cons signal bunch at span spans follows ends later h =
    let peak = peak_of signal bunch span in
    cond_both (is_peak peak) (peak ∷ peaks_of signal bunch spans) (peaks_of signal bunch spans) (RawFrom signal at)
    (λ yes. let inside = and_parts _ _ yes in (record { follows = follows; rises = ltb-true _ _ inside.0; falls = ltb-true _ _ inside.1; apex = refl; ends = ends }, h))
    (λ _. stand-earlier signal (end_sample signal bunch span.end) at (peaks_of signal bunch spans) later h)

-- the peaks from class k on stand behind each sample that lies before it
stand-spans_from : (turns : ℕ) (signal : Signal) (settings : Settings) (at k : ℕ) → 1 ≤ settings.bunch → 2 ≤ length signal.samples → k ≤ class_count (length signal.samples) settings.bunch → at ≤ end_sample signal settings.bunch k → RawFrom signal at (peaks_of signal settings.bunch (spans_from turns (classes signal settings) settings.plateau k))
stand-spans_from zero signal settings at k some enough l m = tt
stand-spans_from (suc turns) signal settings at k some enough l m =
    let cs = classes signal settings in
    let count = class_count (length signal.samples) settings.bunch in
    let many : length cs ≡ count = length-classes signal settings in
    let p = settings.plateau in
    let s = next_up cs k in
    let low : k ≤ s = least-low _ _ _ (omega arith) in
    elim (cases_lt s (length cs)) [
      | inl here ↦ (
          let top = climb cs p s in
          let rises : s < top = climb-low cs p s here in
          let high : top ≤ length cs = climb-high cs p s here in
          elim (cases_Bool (is_down (class_at cs top))) [
            | inl down ↦ (
                let falls : top < fall cs top = fall-low cs top down in
                let within : fall cs top ≤ length cs = fall-high cs top down in
                let start : end_sample signal settings.bunch k ≤ s * settings.bunch = end_sample-start signal settings.bunch k s low (omega arith) in
                let far : s * settings.bunch + 1 ≤ end_sample signal settings.bunch (fall cs top) = end_sample-behind signal settings.bunch s (fall cs top) some (omega arith) (omega arith) in
                let ends : end_sample signal settings.bunch (fall cs top) + 1 ≤ length signal.samples = end_sample-within signal settings.bunch (fall cs top) some enough (omega arith) in
                rw down (stand-cons signal settings.bunch at (record { start = s; end = fall cs top }) (spans_from turns cs p (fall cs top)) (omega arith) (omega arith) (omega arith) (stand-spans_from turns signal settings (end_sample signal settings.bunch (fall cs top)) (fall cs top) some enough (omega arith) (omega arith))))
            | inr flat ↦ (
                let further : end_sample signal settings.bunch k ≤ end_sample signal settings.bunch top = end_sample-rises signal settings.bunch k top some (omega arith) (omega arith) (omega arith) in
                rw flat (stand-spans_from turns signal settings at top some enough (omega arith) (omega arith)))
          ])
      | inr past ↦ rw (span_from-past cs p s past, behind-past cs p s past, spans_from-past turns cs p (length cs) (omega arith)) tt
    ]

pub stand-raw_peaks_of : (signal : Signal) (settings : Settings) → 1 ≤ settings.bunch → 2 ≤ length signal.samples → RawFrom signal 0 (raw_peaks_of signal settings)
stand-raw_peaks_of signal settings some enough =
    stand-spans_from (length (classes signal settings)) signal settings 0 0 some enough (omega arith) (omega arith)

-- the peaks of an answer stand so too
pub stand-answer_of : (signal : Signal) (peaks : List RawPeak) → RawFrom signal 0 peaks → RawFrom signal 0 (peaks_in (answer_of peaks))
stand-answer_of signal peaks h =
    cond_both (nat_le (length peaks) MOST_RAW_PEAKS) (variant.List peaks) (variant.TooMany (length peaks)) (λ raw. RawFrom signal 0 (peaks_in raw)) (λ _. h) (λ _. tt)

length-filter : (peaks : List RawPeak) → length (filter is_peak peaks) ≤ length peaks
length-filter [] = omega arith
length-filter (peak ∷ peaks) =
    let rest = length-filter peaks in
    cond_both (is_peak peak) (peak ∷ filter is_peak peaks) (filter is_peak peaks) (λ kept. length kept ≤ length (peak ∷ peaks)) (λ _. omega arith) (λ _. omega arith)

-- no more raw peaks than classes
pub length-raw_peaks_of : (signal : Signal) (settings : Settings) → length (raw_peaks_of signal settings) ≤ class_count (length signal.samples) settings.bunch
length-raw_peaks_of signal settings =
    let cs = classes signal settings in
    let spans = spans_from (length cs) cs settings.plateau 0 in
    omega (arith, length-filter (map (peak_of signal settings.bunch) spans), length-map spans (peak_of signal settings.bunch), length-spans_from (length cs) cs settings.plateau 0, length-classes signal settings)

-- behind the last class all raw peaks are found
pub all-found : (signal : Signal) (settings : Settings) (k : ℕ) (found : List RawPeak) → class_count (length signal.samples) settings.bunch ≤ k → found ++ peaks_on signal settings k ≡ raw_peaks_of signal settings → found ≡ raw_peaks_of signal settings
all-found signal settings k found past h =
    let cs = classes signal settings in
    let many = length-classes signal settings in
    let none : later_spans cs settings.plateau k ≡ [] = later_spans-end cs settings.plateau k (omega arith) in
    sym (append-nil found) ∙ (rw none at h)
