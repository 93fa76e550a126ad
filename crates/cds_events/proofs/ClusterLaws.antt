-- The clusters of runs of fused peaks stand in order, and have few parts.
use Rattle.std.proofs.Common.{◌≡◌, ℕ, ◌+◌, ◌-◌, ◌*◌, ◌<◌, ◌≤◌, Bool, cond, List, [], ◌∷◌, ◌++◌, length, map, take, drop}
use Rattle.std.proofs.Common.{refl, arith, ◌∙◌, inl, inr}
use Rattle.std.specs.Prelude.{All}
use Rattle.std.specs.List.{sum_by, AllPairs}
use Rattle.std.proofs.lemmas.Bool.{cases_Bool}
use Rattle.std.proofs.lemmas.List.Sums.{sum_by-cons, fold_push}
use Rattle.std.proofs.lemmas.List.{append_assoc}
use Rattle.std.proofs.lemmas.List.Elements.{All-head, All-tail}
use Rattle.cds_base.specs.declared.cluster.Cut.TheVariants.{Start}
use Rattle.cds_base.specs.declared.cluster.Cluster.{Cluster}
use Rattle.cds_base.specs.declared.cluster.Part.{Part}
use Rattle.cds_base.specs.declared.event.Event.{Event}
use Rattle.cds_base.specs.declared.event.Event.TheVariants.{Inhibit, Valley, Drop, Baseline, Slope, Skim}
use Rattle.cds_base.specs.declared.peak.RawPeak.{RawPeak}
use Rattle.cds_trace.specs.Signal.{Signal}
use Rattle.cds_events.specs.Pieces.{Piece}
use Rattle.cds_events.specs.Placed.{Placed}
use Rattle.cds_events.specs.Runs.{fused, before_runs, runs_of, fused_after, run_length}
use Rattle.cds_base.specs.Tiles.{Tiles}
use Rattle.cds_events.specs.Parts.{parts_from}
use Rattle.cds_events.specs.Pieces.{pieces_of}
use Rattle.cds_events.specs.Placed.{placed_peaks}
use Rattle.cds_events.specs.Drops.{drop_samples, is_drop, drop_count, cut_all}
use Rattle.cds_events.specs.Arrangement.{start_of, end_of, cluster_of, clusters_of}
use Rattle.cds_events.specs.Ordered.{IsPlaced, AreOrdered, RunsFrom, IsInside, reached}
use Rattle.cds_trace.specs.Standing.{RawFrom}
use Rattle.cds_events.specs.Standing.{IsPart, IsCluster, ClustersFrom, BeginsAtStart, part_count}
use Rattle.cds_events.proofs.ListLaws.{pairs-head, pairs-tail}
use Rattle.cds_events.proofs.RunLaws.{runs_of-cons, runs_of-split}
use Rattle.cds_events.proofs.PartLaws.{Tiles-some, Tiles-inside, Tiles-span, cut_all-tiles, cut_all-parts, cut_all-few}
use Rattle.cds_events.proofs.PartLaws.{cut_all-begins, ordered-reach, ordered-ends, parts_from-tiles, parts_from-parts}
use Rattle.cds_events.proofs.PartLaws.{length-parts_from, lines_before, lines_before-mono, lines_before-most}
use Rattle.cds_events.proofs.PieceLaws.{ArePieces, pieces_of-are}
use Rattle.cds_events.proofs.PlaceLaws.{IsBefore, placed-each, placed-pairs, length-placed_peaks}

-- one more peak in front of the runs of those behind it
one-more : (signal : Signal) (gap : ℕ) (pieces : List Piece) (peak next : Placed) (run : List Placed)
    (runs : List (List Placed)) → IsPlaced signal peak → IsBefore gap pieces peak next →
    RunsFrom signal next.start ((next ∷ run) ∷ runs) →
    RunsFrom signal peak.start (before_runs (fused gap pieces) peak ((next ∷ run) ∷ runs))
one-more signal gap pieces peak next run runs is before stand = elim (cases_Bool (fused gap pieces peak next)) [
  | inl e ↦ rw e (omega arith, omega arith, (is, before.apexes, stand.2), stand.3)
  | inr e ↦ rw e (omega arith, omega arith, (is, tt, tt), (before.apart e, stand.1, stand.2, stand.3))
]

pub runs-stand : (signal : Signal) (gap : ℕ) (pieces : List Piece) (peaks : List Placed) →
    All (IsPlaced signal) peaks → AllPairs (IsBefore gap pieces) peaks →
    RunsFrom signal (start_of peaks) (runs_of (fused gap pieces) peaks)
runs-stand signal gap pieces [] each pairs = tt
runs-stand signal gap pieces (peak ∷ []) each pairs =
    (omega arith, omega arith, (All-head (IsPlaced signal) peak [] each, tt, tt), tt)
runs-stand signal gap pieces (peak ∷ next ∷ later) each pairs =
    let joins : Placed → Placed → Bool = fused gap pieces in
    let is : IsPlaced signal peak = All-head (IsPlaced signal) peak (next ∷ later) each in
    let before : IsBefore gap pieces peak next =
    All-head (IsBefore gap pieces peak) next later (pairs-head (IsBefore gap pieces) peak (next ∷ later) pairs) in
    let rest : RunsFrom signal next.start (runs_of joins (next ∷ later)) =
    runs-stand signal gap pieces (next ∷ later) (All-tail (IsPlaced signal) peak (next ∷ later) each)
    (pairs-tail (IsBefore gap pieces) peak (next ∷ later) pairs) in
    let cons = runs_of-cons joins next later in
    let there = rw cons at rest in
    rw cons (one-more signal gap pieces peak next (take (fused_after joins next later) later)
    (runs_of joins (drop (fused_after joins next later) later)) is before there)

pub runs-lower : (signal : Signal) (low at : ℕ) (runs : List (List Placed)) → low ≤ at → RunsFrom signal at runs →
    RunsFrom signal low runs
runs-lower signal low at [] l stand = tt
runs-lower signal low at (run ∷ runs) l stand = (omega (arith, stand.0), stand.1, stand.2, stand.3)

-- the parts of a run tile its range

record IsRun (signal : Signal) (run : List Placed) : Type 0 where
  tiled : Tiles (start_of run) (parts_from signal (start_of run) Start run) (end_of run)
  parts : All (IsPart signal) (parts_from signal (start_of run) Start run)
  begins : BeginsAtStart (parts_from signal (start_of run) Start run)
  order : start_of run < end_of run
  ends : end_of run < length signal.samples

run-is : (signal : Signal) (run : List Placed) → 0 < length run → AreOrdered signal run → IsRun signal run
run-is signal [] some ordered = absurd (omega arith)
run-is signal (peak ∷ later) some ordered = record {
  tiled = parts_from-tiles signal peak.start Start (peak ∷ later) some ordered.0.rises ordered;
  parts = parts_from-parts signal peak.start Start (peak ∷ later) ordered.0.rises ordered;
  begins = refl;
  order = omega (arith, ordered.0.rises, ordered-reach signal 0 (peak ∷ later) ordered);
  ends = ordered-ends signal peak.end later ordered.0.ends ordered.2;
}

-- its parts lie within the trace, and have two steps for each of its samples but one
pub run-inside : (signal : Signal) (run : List Placed) → 0 < length run → AreOrdered signal run →
    All (IsInside signal) (parts_from signal (start_of run) Start run)
run-inside signal run some ordered =
    let is : IsRun signal run = run-is signal run some ordered in
    Tiles-inside signal (start_of run) (parts_from signal (start_of run) Start run) (end_of run) is.tiled is.ends

pub run-span : (signal : Signal) (run : List Placed) → 0 < length run → AreOrdered signal run →
    sum_by (λ part. 2 * (part.end - part.start)) (parts_from signal
    (start_of run) Start run) + 2 * start_of run ≡ 2 * end_of run
run-span signal run some ordered =
    let is : IsRun signal run = run-is signal run some ordered in
    Tiles-span (start_of run) (parts_from signal (start_of run) Start run) (end_of run) is.tiled

-- the cluster of a run
pub cluster-is : (signal : Signal) (at : ℕ) (drops : List ℕ) (run : List Placed) → at ≤ start_of run → 0 < length run →
    AreOrdered signal run → IsCluster signal at (cluster_of signal drops run)
cluster-is signal at drops run low some ordered =
    let is : IsRun signal run = run-is signal run some ordered in
    let whole : List Part = parts_from signal (start_of run) Start run in
    let tiled : Tiles (start_of run) (cut_all signal whole drops) (end_of run) =
    cut_all-tiles signal (start_of run) whole (end_of run) drops is.tiled in
    record {
      follows = low;
      some = Tiles-some (start_of run) (cut_all signal whole drops) (end_of run) tiled is.order;
      tiled = tiled;
      parts = cut_all-parts signal whole drops is.parts;
      begins = cut_all-begins signal whole drops is.begins;
      ends = is.ends;
    }

clusters-stand : (signal : Signal) (at : ℕ) (drops : List ℕ) (runs : List (List Placed)) → RunsFrom signal at runs →
    ClustersFrom signal at (map (cluster_of signal drops) runs)
clusters-stand signal at drops [] stand = tt
clusters-stand signal at drops (run ∷ runs) stand =
    (cluster-is signal at drops run stand.0 stand.1 stand.2, clusters-stand signal (end_of run) drops runs stand.3)

-- the runs of the raw peaks of a trace stand in order
pub runs-from : (signal : Signal) (gap : ℕ) (events : List Event) (raw : List RawPeak) → 2 ≤ length signal.samples →
    RawFrom signal 0 raw →
    RunsFrom signal 0 (runs_of (fused gap (pieces_of signal events)) (placed_peaks (pieces_of signal events) raw))
runs-from signal gap events raw enough stand =
    let pieces : List Piece = pieces_of signal events in
    let are : ArePieces signal pieces = pieces_of-are signal events enough in
    let peaks : List Placed = placed_peaks pieces raw in
    runs-lower signal 0 (start_of peaks) (runs_of (fused gap pieces) peaks) (omega arith)
    (runs-stand signal gap pieces peaks (placed-each signal pieces raw are stand)
    (placed-pairs signal gap pieces raw are stand))

pub clusters_of-stand : (signal : Signal) (gap : ℕ) (events : List Event) (raw : List RawPeak) →
    2 ≤ length signal.samples → RawFrom signal 0 raw → ClustersFrom signal 0 (clusters_of signal gap events raw)
clusters_of-stand signal gap events raw enough stand =
    clusters-stand signal 0 (drop_samples signal.period events)
    (runs_of (fused gap (pieces_of signal events)) (placed_peaks (pieces_of signal events) raw))
    (runs-from signal gap events raw enough stand)

-- parts are at most peaks and drop lines

abbrev peak_count : List (List Placed) → ℕ
peak_count [] = 0
peak_count (run ∷ runs) = length run + peak_count runs

before_runs-count : (joins : Placed → Placed → Bool) (peak : Placed) (runs : List (List Placed)) →
    peak_count (before_runs joins peak runs) ≡ 1 + peak_count runs
before_runs-count joins peak [] = refl
before_runs-count joins peak ([] ∷ runs) = omega arith
before_runs-count joins peak ((next ∷ run) ∷ runs) = elim (cases_Bool (joins peak next)) [
  | inl e ↦ rw e (omega arith)
  | inr e ↦ rw e (omega arith)
]

runs_of-count : (joins : Placed → Placed → Bool) (peaks : List Placed) → peak_count (runs_of joins peaks) ≡ length peaks
runs_of-count joins [] = refl
runs_of-count joins (peak ∷ peaks) =
    omega (arith, before_runs-count joins peak (runs_of joins peaks), runs_of-count joins peaks)

clusters-few : (signal : Signal) (at : ℕ) (drops : List ℕ) (runs : List (List Placed)) → RunsFrom signal at runs →
    part_count (map (cluster_of signal drops) runs) + lines_before drops at ≤ peak_count runs + length drops
clusters-few signal at drops [] stand = omega (arith, lines_before-most drops at)
clusters-few signal at drops (run ∷ runs) stand =
    let is : IsRun signal run = run-is signal run stand.1 stand.2 in
    let whole : List Part = parts_from signal (start_of run) Start run in
    omega (
      arith,
      sum_by-cons (λ (cluster : Cluster). length cluster.parts) (cluster_of signal drops run)
          (map (cluster_of signal drops) runs),
      cut_all-few signal (start_of run) whole (end_of run) drops is.tiled,
      length-parts_from signal (start_of run) Start run,
      lines_before-mono drops at (start_of run) stand.0,
      clusters-few signal (end_of run) drops runs stand.3,
    )

one-drop_samples : (period : ℕ) (event : Event) (events : List Event) →
    length (drop_samples period (event ∷ events)) ≡ cond (is_drop event) 1 0 + length (drop_samples period events)
one-drop_samples period (Inhibit from to) events = omega arith
one-drop_samples period (Valley from to) events = omega arith
one-drop_samples period (Drop at) events = omega arith
one-drop_samples period (Baseline from to) events = omega arith
one-drop_samples period (Slope at on off) events = omega arith
one-drop_samples period (Skim from to) events = omega arith

length-drop_samples : (period : ℕ) (events : List Event) → length (drop_samples period events) ≡ drop_count events
length-drop_samples period [] = refl
length-drop_samples period (event ∷ events) =
    omega (
      arith,
      one-drop_samples period event events,
      length-drop_samples period events,
      sum_by-cons
          (λ (e : Event). cond (is_drop e) 1 0) event events,
    )

pub clusters_of-few : (signal : Signal) (gap : ℕ) (events : List Event) (raw : List RawPeak) →
    2 ≤ length signal.samples → RawFrom signal 0 raw →
    part_count (clusters_of signal gap events raw) ≤ length raw + drop_count events
clusters_of-few signal gap events raw enough stand =
    let pieces : List Piece = pieces_of signal events in
    let peaks : List Placed = placed_peaks pieces raw in
    omega (
      arith,
      clusters-few signal 0 (drop_samples signal.period events) (runs_of (fused gap pieces) peaks)
          (runs-from signal gap events raw enough stand),
      runs_of-count (fused gap pieces) peaks,
      length-placed_peaks pieces raw,
      length-drop_samples signal.period events,
    )

-- the next run

-- the last cluster ends where its run does
pub reached-push : (clusters : List Cluster) (cluster : Cluster) → reached (clusters ++ cluster ∷ []) ≡ cluster.end
reached-push clusters cluster = fold_push (λ (end : ℕ) (c : Cluster). c.end) 0 clusters cluster

-- what is made of the first run, and then of those behind it
pub made-more : (signal : Signal) (drops : List ℕ) (joins : Placed → Placed → Bool) (made : List Cluster)
    (rest peaks : List Placed) (count : ℕ) → 0 < length rest → count ≡ run_length joins rest →
    made ++ map (cluster_of signal drops) (runs_of joins rest) ≡ map (cluster_of signal drops) (runs_of joins peaks) →
    (made ++ cluster_of signal drops (take count rest) ∷ []) ++ map (cluster_of signal drops)
    (runs_of joins (drop count rest)) ≡ map (cluster_of signal drops) (runs_of joins peaks)
made-more signal drops joins made rest peaks count some e kept =
    let first = cluster_of signal drops (take count rest) in
    let later = map (cluster_of signal drops) (runs_of joins (drop count rest)) in
    let split : runs_of joins rest ≡ take count rest ∷ runs_of joins (drop count rest) =
    rw e (runs_of-split joins rest some) in
    append_assoc made (first ∷ []) later ∙ rw split at kept

-- the first run, and those behind it, stand
pub runs-split : (signal : Signal) (at : ℕ) (joins : Placed → Placed → Bool) (rest : List Placed) (count : ℕ) →
    0 < length rest → count ≡ run_length joins rest → RunsFrom signal at (runs_of joins rest) →
    RunsFrom signal at (take count rest ∷ runs_of joins (drop count rest))
runs-split signal at joins rest count some e stand =
    let split : runs_of joins rest ≡ take count rest ∷ runs_of joins (drop count rest) =
    rw e (runs_of-split joins rest some) in
    rw split at stand

-- a run ends within the trace
pub run-ends : (signal : Signal) (run : List Placed) → 0 < length run → AreOrdered signal run →
    end_of run < length signal.samples
run-ends signal run some ordered = (run-is signal run some ordered).ends
