-- The parts of a cluster with the lines below them: over the baseline, or skimmed off by a tangent. This project's own
-- rules. Times are in microseconds, those of events in milliseconds.
use Rattle.std.specs.Prelude.{ℕ, ◌*◌, ◌&&◌, ◌==◌, Bool, true, false, not, List, map, nat_lt, if◌then◌else◌}
use Rattle.std.specs.List.{list_any}
use Rattle.cds_base.specs.declared.peak.Line.{Line}
use Rattle.cds_base.specs.declared.event.Event.{Event}
use Rattle.cds_base.specs.declared.event.Event.TheVariants.{Inhibit, Valley, Drop, Baseline, Slope, Skim}
use Rattle.cds_base.specs.declared.cluster.Part.{Part}
use Rattle.cds_base.specs.declared.cluster.Cluster.{Cluster}
use Rattle.cds_trace.specs.Signal.{Signal}
use Rattle.cds_base.specs.EventTime.{is_in_window}
use Rattle.cds_baseline.specs.Cluster.{is_valley, cluster_nodes}
use Rattle.cds_baseline.specs.Tangent.{tangent_sample}
use Rattle.cds_trace.specs.Heights.{chord}
use Rattle.cds_integrate.specs.Lines.{line_over}

-- a part with the line below it: the samples at which it starts, has its apex and ends, where its part of the cluster
-- ends, and whether it is skimmed off by a tangent
pub record Shape : Type 0 where
  pub start : ℕ
  pub apex : ℕ
  pub end : ℕ
  pub reach : ℕ
  pub rider : Bool
  pub line : Line

-- the event makes a valley at this time a node
abbrev pub covers : ℕ → Event → Bool
covers time (Inhibit from to) = false
covers time (Valley from to) = is_in_window from to time
covers time (Drop at) = false
covers time (Baseline from to) = false
covers time (Slope at on off) = false
covers time (Skim from to) = false

-- the event skims off the part behind a valley at this time
abbrev pub skims : ℕ → Event → Bool
skims time (Inhibit from to) = false
skims time (Valley from to) = false
skims time (Drop at) = false
skims time (Baseline from to) = false
skims time (Slope at on off) = false
skims time (Skim from to) = is_in_window from to time

-- the left end of a part is a valley in the window of a valley event
abbrev pub is_covered : Signal → List Event → Part → Bool
is_covered signal events part = is_valley part.left && list_any (covers (part.start * signal.period)) events

-- the nodes of a cluster's baseline under these events
abbrev pub nodes_of : Signal → List Event → Cluster → List ℕ
nodes_of signal events cluster = cluster_nodes signal cluster (map (is_covered signal events) cluster.parts)

-- the left end of a part is a valley in the window of a skim event, and no node
abbrev pub is_skimmed : Signal → List Event → List ℕ → Part → Bool
is_skimmed signal events nodes part =
    is_valley part.left && (list_any (skims (part.start * signal.period)) events && not
    (list_any (λ node. node == part.start) nodes))

-- and its tangent ends behind its apex
abbrev pub is_rider : Signal → List Event → List ℕ → Part → Bool
is_rider signal events nodes part =
    is_skimmed signal events nodes part && nat_lt part.apex (tangent_sample signal part.start part.end)

-- a rider: it ranges from the valley to the tangent sample, over the chord between the two
abbrev pub rider_shape : Signal → Part → Shape
rider_shape signal part =
    let end = tangent_sample signal part.start part.end in
    record {
      start = part.start;
      apex = part.apex;
      end = end;
      reach = part.end;
      rider = true;
      line = chord signal
          part.start end;
    }

-- any other part: it keeps its range, over the baseline
abbrev pub plain_shape : Signal → List ℕ → Part → Shape
plain_shape signal nodes part =
    record {
      start = part.start;
      apex = part.apex;
      end = part.end;
      reach = part.end;
      rider = false;
      line = line_over
          signal nodes part.start;
    }

abbrev pub shape_of : Signal → List Event → List ℕ → Part → Shape
shape_of signal events nodes part =
    if is_rider signal events nodes part then rider_shape signal part else plain_shape signal nodes part

-- the parts of a cluster, in their order
abbrev pub shapes_of : Signal → List Event → Cluster → List Shape
shapes_of signal events cluster = map (shape_of signal events (nodes_of signal events cluster)) cluster.parts
