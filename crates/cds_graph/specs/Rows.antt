-- A row: what integration finds in it, the peak of a component in it, and what it is injected for. This project's own.
use Rattle.std.specs.Prelude.{ℕ, ◌==◌, Bool, true, false, List, Option, Some, None, find, ok_or}
use Rattle.std.specs.Prelude.{Result, Err}
use Rattle.std.specs.List.{enumerate_from}
use Rattle.cds_base.specs.declared.event.Event.{Event}
use Rattle.cds_base.specs.declared.peak.Missing.{Missing}
use Rattle.cds_base.specs.declared.peak.Missing.TheVariants.{NoPeak, TooManyPeaks}
use Rattle.cds_rules.specs.Fields.{Fields}
use Rattle.cds_sign.specs.declared.row.RowKind.{RowKind}
use Rattle.cds_sign.specs.declared.row.RowKind.TheVariants.{Blank, Standard, Replicate, Sample}
use Rattle.cds_trace.specs.Signal.{Signal}
use Rattle.cds_integrate.specs.Seen.{PeakSeen, RowSeen, peaks, too_many, row_seen}

-- what is found in a signal under a method and the events of its row: its peaks, or that they are too many
unfoldable pub found_in : Signal → Fields → List Event → RowSeen
found_in signal fields events = row_seen signal fields events

-- a number is the one that is sought
abbrev pub is_number : ℕ → Option ℕ → Bool
is_number sought None = false
is_number sought (Some number) = number == sought

-- the peak that a row names this component, by the number of the component; or why there is none
abbrev pub peak_in : RowSeen → ℕ → Result PeakSeen Missing
peak_in (peaks list) component = ok_or (find (λ peak. is_number component peak.component) list) NoPeak
peak_in (too_many number) component = Err TooManyPeaks

-- the row is injected for noise alone
abbrev pub is_blank : RowKind → Bool
is_blank Blank = true
is_blank Standard = false
is_blank Replicate = false
is_blank Sample = false

-- the row is one of several injections of one solution
abbrev pub is_replicate : RowKind → Bool
is_replicate Blank = false
is_replicate Standard = false
is_replicate Replicate = true
is_replicate Sample = false

-- the row is injected for its amounts
abbrev pub is_sample : RowKind → Bool
is_sample Blank = false
is_sample Standard = false
is_sample Replicate = false
is_sample Sample = true

-- the items of a list with their numbers, counted from 1
abbrev pub with_numbers : {A : Type 0} → List A → List (ℕ × A)
with_numbers items = enumerate_from 1 items
