-- The segments of a part between drop lines, in which the first greatest sample is known. For private functions alone.
use Rattle.std.specs.Prelude.{◌≡◌, ℕ, ◌<◌, ◌≤◌, ◌⊎◌, ◌&&◌, Bool, List, [], ◌∷◌, All, nat_le, int_lt, Option, Some, None}
use Rattle.std.specs.Prelude.{if◌then◌else◌}
use Rattle.std.specs.List.{fold, flat_map}
use Rattle.cds_base.specs.declared.cluster.Part.{Part}
use Rattle.cds_trace.specs.Signal.{Signal, sample_at}
use Rattle.cds_events.specs.declared.segments.Segment.{Segment}
use Rattle.cds_events.specs.Drops.{cut_by}
use Rattle.cds_trace.specs.Extremes.{first_greatest}

-- a segment of the signal: its ends lie apart, and its top is its first greatest sample, with the level there
pub record IsSegment (signal : Signal) (segment : Segment) : Type 0 where
  pub order : segment.from < segment.to
  pub top : segment.top ≡ first_greatest signal segment.from segment.to
  pub level : segment.level ≡ sample_at signal segment.top

-- segments cover a range: each begins where the one before ends
abbrev pub Covers : Signal → ℕ → List Segment → ℕ → Type 0
Covers signal start [] end = start ≡ end
Covers signal start (segment ∷ segments) end =
    (segment.from ≡ start) × IsSegment signal segment × Covers signal segment.to segments end

-- a sample that doesn't lie strictly inside a range
abbrev pub IsOutside : ℕ → ℕ → ℕ → Type 0
IsOutside from to at = (at ≤ from) ⊎ (to ≤ at)

-- a sample that doesn't lie strictly inside any of the segments
abbrev pub IsMark : List Segment → ℕ → Type 0
IsMark segments at = All (λ segment. IsOutside segment.from segment.to at) segments

-- of two segments the one with the higher top, and the first where they are equally high
abbrev pub higher : Option Segment → Segment → Segment
higher None segment = segment
higher (Some best) segment = if int_lt best.level segment.level then segment else best

-- the segment lies within a range
abbrev pub is_within : ℕ → ℕ → Segment → Bool
is_within from to segment = nat_le from segment.from && nat_le segment.to to

-- the higher of the best segment of a range so far and this one, where it lies within the range
abbrev pub best_with : ℕ → ℕ → Option Segment → Segment → Option Segment
best_with from to best segment = if is_within from to segment then Some (higher best segment) else best

-- the top of a segment, or this sample where there is none
abbrev pub top_or : ℕ → Option Segment → ℕ
top_or from None = from
top_or from (Some segment) = segment.top

-- the top of a range, as the segments within it tell it
abbrev pub top_within : List Segment → ℕ → ℕ → ℕ
top_within segments from to = top_or from (fold (best_with from to) None segments)

-- what a drop line leaves of parts, where the segments tell the tops
abbrev pub cut_each_by : List Segment → List Part → ℕ → List Part
cut_each_by segments parts at = flat_map (cut_by (top_within segments) at) parts
