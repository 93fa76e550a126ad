-- Placed peaks in their order, and how they and their runs stand in a trace. For private functions alone.
use Rattle.std.specs.Prelude.{ℕ, ◌+◌, ◌<◌, ◌≤◌, List, [], ◌∷◌, length}
use Rattle.std.specs.List.{fold}
use Rattle.cds_base.specs.declared.cluster.Part.{Part}
use Rattle.cds_base.specs.declared.cluster.Cluster.{Cluster}
use Rattle.cds_trace.specs.Signal.{Signal}
use Rattle.cds_events.specs.Placed.{Placed}
use Rattle.cds_events.specs.Arrangement.{start_of, end_of}
use Rattle.cds_trace.specs.Standing.{IsCrest}

-- a peak whose apex lies strictly between its ends and is a crest, and that ends within the trace
pub record IsPlaced (signal : Signal) (peak : Placed) : Type 0 where
  pub rises : peak.start < peak.apex
  pub falls : peak.apex < peak.end
  pub crest : IsCrest signal peak.apex
  pub ends : peak.end < length signal.samples

-- a sample lies between the apexes of a peak and of the next one, if there is one
abbrev pub IsAhead : Placed → List Placed → Type 0
IsAhead peak [] = Unit {0}
IsAhead peak (next ∷ later) = peak.apex + 2 ≤ next.apex

-- the apex of the next peak, or this sample where there is none
abbrev pub next_apex : ℕ → List Placed → ℕ
next_apex at [] = at
next_apex at (next ∷ later) = next.apex

-- peaks in order
abbrev pub AreOrdered : Signal → List Placed → Type 0
AreOrdered signal [] = Unit {0}
AreOrdered signal (peak ∷ later) = IsPlaced signal peak × IsAhead peak later × AreOrdered signal later

-- runs of peaks in order, the first of which begins at this sample or behind it, and each next one where the one before
-- ends, or behind it
abbrev pub RunsFrom : Signal → ℕ → List (List Placed) → Type 0
RunsFrom signal at [] = Unit {0}
RunsFrom signal at (run ∷ runs) =
    (at ≤ start_of run) × (0 < length run) × AreOrdered signal run × RunsFrom signal (end_of run) runs

-- where the last cluster ends, or the start of the trace
abbrev pub reached : List Cluster → ℕ
reached clusters = fold (λ end cluster. cluster.end) 0 clusters

-- a part that ends behind its start and within the trace
pub record IsInside (signal : Signal) (part : Part) : Type 0 where
  pub order : part.start < part.end
  pub ends : part.end < length signal.samples
