-- The slope thresholds that are in force at a time, and where no peak may be. Times are in microseconds from the
-- start of the trace, those of events in milliseconds. This project's own rules.
use Rattle.std.specs.Prelude.{ℕ, ◌*◌, Bool, false, List, [], ◌∷◌, Option, Some, None, nat_le, nat_lt, if◌then◌else◌}
use Rattle.std.specs.List.{list_any}
use Rattle.std.specs.Option.{unwrap_or}
use Rattle.cds_base.specs.EventTime.{is_in_window}
use Rattle.cds_base.specs.declared.time.TheConstants.{MILLISECOND_US}
use Rattle.cds_base.specs.declared.event.Event.{Event}
use Rattle.cds_base.specs.declared.event.Event.TheVariants.{Inhibit, Valley, Drop, Baseline, Slope, Skim}

-- slope thresholds in counts per second, and the time in milliseconds from which on they are in force
pub record Slopes : Type 0 where
  pub at : ℕ
  pub on : ℕ
  pub off : ℕ

-- the event forbids peaks at the time
abbrev pub inhibits : ℕ → Event → Bool
inhibits time (Inhibit from to) = is_in_window from to time
inhibits time (Valley from to) = false
inhibits time (Drop at) = false
inhibits time (Baseline from to) = false
inhibits time (Slope at on off) = false
inhibits time (Skim from to) = false

-- one of the events does
abbrev pub is_inhibited : List Event → ℕ → Bool
is_inhibited events time = list_any (inhibits time) events

-- the thresholds that the event sets, where it is a slope event whose time isn't above this one
abbrev pub slopes_set : ℕ → Event → Option Slopes
slopes_set time (Inhibit from to) = None
slopes_set time (Valley from to) = None
slopes_set time (Drop at) = None
slopes_set time (Baseline from to) = None
slopes_set time (Slope at on off) = if nat_le (MILLISECOND_US * at) time
    then Some (record { at = at; on = on; off = off }) else None
slopes_set time (Skim from to) = None

-- of two settings the one with the greater time, and the second where the times are equal
abbrev pub later_of : Option Slopes → Option Slopes → Option Slopes
later_of None second = second
later_of (Some first) None = Some first
later_of (Some first) (Some second) = if nat_lt second.at first.at then Some first else Some second

-- the thresholds of the slope event with the greatest time not above this one, the later in the list of equal times
abbrev pub in_force : List Event → ℕ → Option Slopes
in_force [] time = None
in_force (event ∷ events) time = later_of (slopes_set time event) (in_force events time)

-- the thresholds at a time: those in force, or the method's own where there are none
abbrev pub slopes_at : Slopes → List Event → ℕ → Slopes
slopes_at own events time = unwrap_or (in_force events time) own
