-- The clusters of a trace: fused peaks and forced pieces, cut into their parts. This project's own rule.
use Rattle.std.specs.Prelude.{ℕ, ◌*◌, Bool, false, List, [], ◌∷◌, map}
use Rattle.std.specs.List.{fold}
use Rattle.cds_base.specs.declared.event.Event.{Event}
use Rattle.cds_base.specs.declared.peak.RawPeak.{RawPeak}
use Rattle.cds_base.specs.declared.cluster.Cut.TheVariants.{Start}
use Rattle.cds_base.specs.declared.cluster.Cluster.{Cluster}
use Rattle.cds_rules.specs.Fields.{Fields, row_events}
use Rattle.cds_trace.specs.Signal.{Signal}
use Rattle.cds_events.specs.Placed.{Placed}
use Rattle.cds_events.specs.Pieces.{pieces_of}
use Rattle.cds_events.specs.Placed.{placed_peaks}
use Rattle.cds_events.specs.Runs.{fused, runs_of}
use Rattle.cds_events.specs.Parts.{parts_from}
use Rattle.cds_events.specs.Drops.{drop_samples, cut_all}

-- the most samples between two peaks that are fused: so many bunches as the method states
abbrev pub gap_of : Fields → ℕ
gap_of fields = fields.fuse * fields.bunch

-- where a run starts, as its first peak does
abbrev pub start_of : List Placed → ℕ
start_of [] = 0
start_of (first ∷ later) = first.start

-- where a run ends, as its last peak does
abbrev pub end_of : List Placed → ℕ
end_of run = fold (λ end peak. peak.end) 0 run

-- whether a run belongs to a forced piece, as its first peak does
abbrev pub is_forced : List Placed → Bool
is_forced [] = false
is_forced (first ∷ later) = first.forced

-- the cluster of a run of fused peaks, cut at its valleys and then at the drop lines
abbrev pub cluster_of : Signal → List ℕ → List Placed → Cluster
cluster_of signal drops run = record {
  start = start_of run;
  end = end_of run;
  forced = is_forced run;
  parts = cut_all signal (parts_from signal (start_of run) Start run) drops;
}

-- the clusters of raw peaks under these events, where peaks with at most `gap` samples between them are fused
abbrev pub clusters_of : Signal → ℕ → List Event → List RawPeak → List Cluster
clusters_of signal gap events raw =
    let pieces = pieces_of signal events in
    map (cluster_of signal (drop_samples signal.period events)) (runs_of (fused gap pieces) (placed_peaks pieces raw))

-- the clusters of raw peaks under what a method states and the events of a row
abbrev pub clusters_under : Signal → Fields → List Event → List RawPeak → List Cluster
clusters_under signal fields manual raw = clusters_of signal (gap_of fields) (row_events fields manual) raw
