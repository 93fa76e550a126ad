-- The times of a row's peaks under rules 1.
use Rattle.std.proofs.Common.{◌≡◌, ℕ, suc, ◌*◌, List, [], ◌∷◌, All, Option, ap, ◌∙◌, sym}
use Rattle.std.proofs.lemmas.List.Elements.{All-nil, All-cons}
use Rattle.cds_base.specs.declared.event.Event.{Event}
use Rattle.cds_base.specs.declared.peak.Peak.{Peak}
use Rattle.cds_rules.specs.Fields.{Fields}
use Rattle.cds_trace.specs.Signal.{Signal}
use Rattle.cds_figures.specs.PeakTime.{peak_time_of}
use Rattle.cds_integrate.specs.Peaks.{Found, ArePeaks}
use Rattle.cds_integrate.specs.Row.{Answer, Peaks, TooMany, found_of, peaks_in, IsRow}

-- the time of a peak is that of its apex sample
abbrev IsAtApex : Signal → Peak → Type 0
IsAtApex signal peak = peak.time_us ≡ peak.apex * signal.period

all-at-apex : (signal : Signal) (fields : Fields) (naming : List (Option ℕ)) (number : ℕ) (found : List Found)
    (list : List Peak) →
    fields.rules ≡ 1 → ArePeaks signal fields naming number found list → All (IsAtApex signal) list
all-at-apex signal fields naming number [] [] one are = All-nil (IsAtApex signal)
all-at-apex signal fields naming number [] (peak ∷ list) one are = absurd are
all-at-apex signal fields naming number (part ∷ found) [] one are = absurd are
all-at-apex signal fields naming number (part ∷ found) (peak ∷ list) one are =
    let shape = part.part.shape in
    let time : peak.time_us ≡ shape.apex * signal.period =
    are.0.time ∙ ap (λ rules. peak_time_of signal rules shape.start shape.apex shape.end) one in
    All-cons (IsAtApex signal) peak list (time ∙ ap (λ apex. apex * signal.period) (sym are.0.apex))
    (all-at-apex signal fields naming (suc number) found list one are.1)

pub at-apex : (signal : Signal) (fields : Fields) (manual : List Event) (row : Answer) → fields.rules ≡ 1 →
    IsRow signal fields manual row →
    All (λ peak. peak.time_us ≡ peak.apex * signal.period) (peaks_in row)
at-apex signal fields manual (Peaks list) one is =
    all-at-apex signal fields is.1.naming 1 (found_of signal fields manual) list one is.1.peaks_are
at-apex signal fields manual (TooMany number) one is = All-nil (IsAtApex signal)
