-- A row has few peaks: at most as many as it may have raw peaks, and one for each drop event.
use Rattle.std.proofs.Common.{◌≤◌, List, [], ◌∷◌, Option, Some, None, length}
use Rattle.std.proofs.Common.{arith, inl, inr}
use Rattle.std.specs.List.{flat_map}
use Rattle.std.proofs.lemmas.Bool.{cases_Bool}
use Rattle.std.proofs.lemmas.List.{length-append, length-map}
use Rattle.std.proofs.lemmas.List.Sums.{sum_by-cons}
use Rattle.cds_base.specs.declared.event.Event.{Event}
use Rattle.cds_base.specs.declared.peak.RawPeak.{RawPeak}
use Rattle.cds_base.specs.declared.cluster.Cluster.{Cluster}
use Rattle.cds_rules.specs.Fields.{Fields, row_events}
use Rattle.cds_trace.specs.Signal.{Signal, IsTrace}
use Rattle.cds_detect.specs.Raw.{raw_peaks_of}
use Rattle.cds_detect.specs.Settings.{settings_of}
use Rattle.cds_integrate.proofs.RawLaws.{raw-stand}
use Rattle.cds_events.specs.Arrangement.{gap_of}
use Rattle.cds_events.specs.Standing.{part_count}
use Rattle.cds_events.proofs.ClusterLaws.{clusters_of-few}
use Rattle.cds_integrate.specs.Shapes.{Shape, nodes_of, shape_of, shapes_of}
use Rattle.cds_integrate.specs.Measures.{Measured, measure, measured, is_rejected}
use Rattle.cds_integrate.specs.Peaks.{Found, with_before, kept_of}
use Rattle.cds_integrate.specs.Row.{Answer, Peaks, TooMany, row_clusters, found_in, found_of, peaks_in}
use Rattle.cds_integrate.specs.Row.{most_peaks, IsRow}
use Rattle.cds_integrate.proofs.FoundLaws.{kept-yes, kept-no}
use Rattle.cds_integrate.proofs.PeakLaws.{peaks-count}

-- no more parts are kept than there are shapes
kept-few : (signal : Signal) (fields : Fields) (before : Option Measured) (shapes : List Shape) →
    length (kept_of signal fields (with_before before (measured signal shapes))) ≤ length shapes
kept-few signal fields before [] = omega arith
kept-few signal fields before (shape ∷ later) =
    let part : Measured = measure signal shape later in
    let one : Found = record { before = before; part = part } in
    let others : List Found = with_before (Some part) (measured signal later) in
    let rest = kept-few signal fields (Some part) later in
    elim (cases_Bool (is_rejected signal fields part)) [
      | inl is ↦ rw (kept-no signal fields one others is) (omega (arith, rest))
      | inr other ↦ rw (kept-yes signal fields one others other) (omega (arith, rest))
    ]

-- no more are found in clusters than they have parts
found-few : (signal : Signal) (fields : Fields) (events : List Event) (clusters : List Cluster) →
    length (flat_map (found_in signal fields events) clusters) ≤ part_count clusters
found-few signal fields events [] = omega arith
found-few signal fields events (cluster ∷ clusters) =
    omega (
      arith,
      length-append (found_in signal fields events cluster) (flat_map (found_in signal fields events) clusters),
      kept-few signal fields None (shapes_of signal events cluster),
      length-map cluster.parts (shape_of signal events (nodes_of signal events cluster)),
      sum_by-cons (λ (c : Cluster). length c.parts) cluster clusters,
      found-few signal fields events clusters,
    )

-- the peaks of each row are few
pub few : (signal : Signal) (fields : Fields) (manual : List Event) (row : Answer) → IsTrace signal →
    IsRow signal fields manual row →
    length (peaks_in row) ≤ most_peaks fields manual
few signal fields manual (Peaks peaks) trace is =
    let events : List Event = row_events fields manual in
    let raw : List RawPeak = raw_peaks_of signal (settings_of fields manual) in
    omega (
      arith,
      is.0,
      peaks-count signal fields is.1.naming 1 (found_of signal fields manual) peaks is.1.peaks_are,
      found-few signal fields events (row_clusters signal fields manual),
      clusters_of-few signal (gap_of fields) events raw trace.enough
          (raw-stand signal (settings_of fields manual) trace.enough),
    )
few signal fields manual (TooMany number) trace is = omega arith
