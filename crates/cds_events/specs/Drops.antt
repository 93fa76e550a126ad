-- Drop lines, which cut parts. This project's own rule.
use Rattle.std.specs.Prelude.{ℕ, ◌&&◌, ◌==◌, Bool, true, false, not, List, [], ◌∷◌, Option, Some, None, nat_lt}
use Rattle.std.specs.Prelude.{if◌then◌else◌}
use Rattle.std.specs.List.{fold, filter_map, flat_map, count_by}
use Rattle.cds_base.specs.declared.event.Event.{Event}
use Rattle.cds_base.specs.declared.event.Event.TheVariants as event
use Rattle.cds_base.specs.declared.cluster.Cut.TheVariants as boundary
use Rattle.cds_base.specs.declared.cluster.Part.{Part}
use Rattle.cds_trace.specs.Signal.{Signal}
use Rattle.cds_trace.specs.Extremes.{first_greatest}
use Rattle.cds_events.specs.Pieces.{sample_of_time}

-- the sample of a drop event
abbrev pub drop_sample : ℕ → Event → Option ℕ
drop_sample period (event.Inhibit from to) = None
drop_sample period (event.Valley from to) = None
drop_sample period (event.Drop at) = Some (sample_of_time period at)
drop_sample period (event.Baseline from to) = None
drop_sample period (event.Slope at on off) = None
drop_sample period (event.Skim from to) = None

-- the samples of the drop events, in the order of the list
abbrev pub drop_samples : ℕ → List Event → List ℕ
drop_samples period events = filter_map (drop_sample period) events

-- whether an event is a drop
abbrev pub is_drop : Event → Bool
is_drop (event.Inhibit from to) = false
is_drop (event.Valley from to) = false
is_drop (event.Drop at) = true
is_drop (event.Baseline from to) = false
is_drop (event.Slope at on off) = false
is_drop (event.Skim from to) = false

-- how many of the events are drops
abbrev pub drop_count : List Event → ℕ
drop_count events = count_by is_drop events

-- a drop line at a sample has a part on both of its sides
abbrev pub crosses : ℕ → Part → Bool
crosses at part = nat_lt part.start at && nat_lt at part.end

-- a drop line at a sample cuts a part that has this sample strictly inside, and whose apex it isn't
abbrev pub is_cut : ℕ → Part → Bool
is_cut at part = crosses at part && not (part.apex == at)

-- the piece before the line: it keeps the part's apex where that lies in it, and else takes the top of its own range
abbrev pub front : (ℕ → ℕ → ℕ) → ℕ → Part → Part
front top at part = record {
  start = part.start;
  apex = if nat_lt part.apex at then part.apex else top part.start at;
  end = at;
  left = part.left;
}

-- the piece behind the line, whose left end is no valley
abbrev pub back : (ℕ → ℕ → ℕ) → ℕ → Part → Part
back top at part = record {
  start = at;
  apex = if nat_lt part.apex at then top at part.end else part.apex;
  end = part.end;
  left = boundary.Drop;
}

-- what a drop line leaves of a part, where this is the top of each range
abbrev pub cut_by : (ℕ → ℕ → ℕ) → ℕ → Part → List Part
cut_by top at part = if is_cut at part then front top at part ∷ back top at part ∷ [] else part ∷ []

-- what it leaves of parts, where the top of a range is its first greatest sample
abbrev pub cut_each : Signal → List Part → ℕ → List Part
cut_each signal parts at = flat_map (cut_by (first_greatest signal) at) parts

-- what drop lines leave of parts, one line after the other
abbrev pub cut_all : Signal → List Part → List ℕ → List Part
cut_all signal parts drops = fold (cut_each signal) parts drops
