-- The raw peaks of a trace. This project's own rule.
use Rattle.std.specs.Prelude.{ℕ, ◌-◌, ◌*◌, ◌&&◌, ◌==◌, Bool, List, [], map, length, nat_le, nat_lt, if◌then◌else◌}
use Rattle.std.specs.List.{filter}
use Rattle.cds_base.specs.declared.peak.RawPeak.{RawPeak}
use Rattle.cds_trace.specs.Signal.{Signal}
use Rattle.cds_trace.specs.Extremes.{first_greatest}
use Rattle.cds_detect.specs.declared.raw.Raw.{Raw}
use Rattle.cds_detect.specs.declared.raw.Raw.TheVariants as variant
use Rattle.cds_detect.specs.declared.raw.TheConstants.{MOST_RAW_PEAKS}
use Rattle.cds_detect.specs.Classes.{Settings, class_count, classes}
use Rattle.cds_detect.specs.Spans.{Span, spans}

-- the last sample of a peak whose fall ends at this class: the first one of its bunch, or the trace's last one where the classes end
abbrev pub end_sample : Signal → ℕ → ℕ → ℕ
end_sample signal bunch end =
    if end == class_count (length signal.samples) bunch then length signal.samples - 1 else end * bunch

-- the range from..to with its first greatest sample
abbrev pub peak_between : Signal → ℕ → ℕ → RawPeak
peak_between signal from to = record { start = from; apex = first_greatest signal from to; end = to }

-- the raw peak of a span of classes
abbrev pub peak_of : Signal → ℕ → Span → RawPeak
peak_of signal bunch span = peak_between signal (span.start * bunch) (end_sample signal bunch span.end)

-- its apex lies strictly between its ends
abbrev pub is_peak : RawPeak → Bool
is_peak peak = nat_lt peak.start peak.apex && nat_lt peak.apex peak.end

-- the raw peaks of these spans; one whose apex is its first or last sample is no peak, and left out
abbrev pub peaks_of : Signal → ℕ → List Span → List RawPeak
peaks_of signal bunch spans = filter is_peak (map (peak_of signal bunch) spans)

-- the raw peaks of a trace, in the order of their times
abbrev pub raw_peaks_of : Signal → Settings → List RawPeak
raw_peaks_of signal settings = peaks_of signal settings.bunch (spans (classes signal settings) settings.plateau)

-- the answer for these raw peaks: their list, or their number where there are more than a row may have
abbrev pub answer_of : List RawPeak → Raw
answer_of peaks = if nat_le (length peaks) MOST_RAW_PEAKS then variant.List peaks else variant.TooMany (length peaks)

-- the peaks of an answer; one with more than a row may have has none
abbrev pub peaks_in : Raw → List RawPeak
peaks_in (variant.List peaks) = peaks
peaks_in (variant.TooMany number) = []
