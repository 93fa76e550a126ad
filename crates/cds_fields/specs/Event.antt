-- The timed events that a text states. The kinds, the fields and the ranges are this project's own.
use Rattle.std.specs.Prelude.{ℕ, ◌+◌, List, [], ◌∷◌, Result, Ok, codes}
use Rattle.cds_base.specs.Answers.{◌>>=◌}
use Rattle.cds_base.specs.declared.event.Event.{Event}
use Rattle.cds_base.specs.declared.event.Event.TheVariants.{Inhibit, Valley, Drop, Baseline, Slope, Skim}
use Rattle.cds_base.specs.declared.time.TheConstants.{LAST_TIME_MS}
use Rattle.cds_base.specs.declared.event.TheConstants.{MOST_SLOPE}
use Rattle.cds_fields.specs.Section.{Section, Entry, Entries, required, only, entry_section, each}
use Rattle.cds_fields.specs.Values.{number_in, one_of}

-- an event with a window, which begins before it ends
unfoldable pub window_of : {E : Type 0} → (ℕ → ℕ → Event) → Section E → Result Event E
window_of kind s = do
  from ← required (number_in 0 LAST_TIME_MS) (codes "from_ms") s
  to ← required (number_in (from + 1) LAST_TIME_MS) (codes "to_ms") s
  _ ← only (codes "kind" ∷ codes "from_ms" ∷ codes "to_ms" ∷ []) s
  Ok (kind from to)

-- an event at one time
unfoldable pub drop_of : {E : Type 0} → Section E → Result Event E
drop_of s = do
  at ← required (number_in 0 LAST_TIME_MS) (codes "at_ms") s
  _ ← only (codes "kind" ∷ codes "at_ms" ∷ []) s
  Ok (Drop at)

-- an event that sets the slope thresholds
unfoldable pub slope_of : {E : Type 0} → Section E → Result Event E
slope_of s = do
  at ← required (number_in 0 LAST_TIME_MS) (codes "at_ms") s
  on ← required (number_in 1 MOST_SLOPE) (codes "on") s
  off ← required (number_in 1 MOST_SLOPE) (codes "off") s
  _ ← only (codes "kind" ∷ codes "at_ms" ∷ codes "on" ∷ codes "off" ∷ []) s
  Ok (Slope at on off)

-- the kinds of events, each with its fields
abbrev pub event_kinds : {E : Type 0} → List (List ℕ × (Section E → Result Event E))
event_kinds =
    (codes "inhibit", window_of Inhibit)
    ∷ (codes "valley", window_of Valley)
    ∷ (codes "baseline", window_of Baseline)
    ∷ (codes "skim", window_of Skim)
    ∷ (codes "drop", drop_of)
    ∷ (codes "slope", slope_of)
    ∷ []

-- an event
unfoldable pub event_of : {E : Type 0} → Entry E → Result Event E
event_of e = do
  s ← entry_section e
  fields ← required (one_of event_kinds) (codes "kind") s
  fields s

-- the events of a list
abbrev pub events_of : {E : Type 0} → Entries E → Result (List Event) E
events_of = each (λ _. event_of)
