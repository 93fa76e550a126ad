-- The ranges of timed events. They are this project's own.
use Rattle.std.specs.Prelude.{◌≤◌, ℕ, ◌&&◌, nat_le, nat_lt, Bool, List, length}
use Rattle.std.specs.List.{AllPass}
use Rattle.cds_base.specs.declared.event.Event.{Event}
use Rattle.cds_base.specs.declared.event.Event.TheVariants.{Inhibit, Valley, Drop, Baseline, Slope, Skim}
use Rattle.cds_base.specs.declared.event.TheConstants.{MOST_SLOPE, MOST_EVENTS}
use Rattle.cds_base.specs.declared.time.TheConstants.{LAST_TIME_MS}

-- a window of at least one millisecond that ends at the last time at the latest
abbrev pub is_window : ℕ → ℕ → Bool
is_window from to = nat_lt from to && nat_le to LAST_TIME_MS

-- a slope threshold, in counts per second
abbrev pub is_slope : ℕ → Bool
is_slope slope = nat_le 1 slope && nat_le slope MOST_SLOPE

-- an event whose times and thresholds are in their ranges
abbrev pub is_event : Event → Bool
is_event (Inhibit from to) = is_window from to
is_event (Valley from to) = is_window from to
is_event (Drop at) = nat_le at LAST_TIME_MS
is_event (Baseline from to) = is_window from to
is_event (Slope at on off) = nat_le at LAST_TIME_MS && is_slope on && is_slope off
is_event (Skim from to) = is_window from to

-- at most 64 events, each in its ranges
pub record EventRanges (events : List Event) : Type 0 where
  pub count : length events ≤ MOST_EVENTS
  pub each : AllPass is_event events
