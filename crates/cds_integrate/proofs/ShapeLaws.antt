-- How the parts of a cluster stand on their lines.
use Rattle.std.proofs.Common.{◌≡◌, ℕ, suc, ◌*◌, ◌<◌, ◌≤◌, inl, inr, Bool, true, false, not, ◌&&◌, List, []}
use Rattle.std.proofs.Common.{◌∷◌, map, length, All, pos, refl, sym, ap, ◌∙◌, arith}
use Rattle.std.proofs.lemmas.List.{length-map}
use Rattle.std.specs.Prelude.{slice_index_or, nat_lt, ◌==◌}
use Rattle.std.specs.List.{list_any}
use Rattle.std.proofs.lemmas.Bool.{cases_Bool, and_parts}
use Rattle.std.proofs.lemmas.Grind.{common_steps}
use Rattle.cds_base.specs.declared.event.Event.{Event}
use Rattle.cds_base.specs.declared.cluster.Part.{Part}
use Rattle.cds_base.specs.declared.cluster.Cluster.{Cluster}
use Rattle.cds_base.specs.Tiles.{Tiles}
use Rattle.cds_trace.specs.Signal.{Signal, IsSample, IsTrace, sample_at}
use Rattle.std.proofs.lemmas.List.Elements.{All-get_or}
use Rattle.cds_baseline.specs.Chord.{is_over}
use Rattle.cds_baseline.specs.Cluster.{is_valley, cluster_nodes}
use Rattle.cds_baseline.specs.Tangent.{tangent_sample}
use Rattle.cds_events.specs.Standing.{IsPart, IsCluster}
use Rattle.cds_integrate.specs.Shapes.{Shape}
use Rattle.cds_integrate.specs.Lines.{last_up_to, first_behind}
use Rattle.cds_integrate.specs.Shapes.{skims, is_covered, nodes_of, is_skimmed, is_rider, rider_shape, plain_shape}
use Rattle.cds_integrate.specs.Shapes.{shape_of, shapes_of}
use Rattle.cds_integrate.specs.Standing.{from_reach, IsOver, IsShape, InRow}
use Rattle.cds_integrate.proofs.RiderLaws.{chord-whole}
use Rattle.cds_integrate.proofs.PartLaws.{IsClear, tiles-order, part-within, clear-at}
use Rattle.cds_integrate.proofs.NodeLaws.{IsNextNode, last_up_to-low, next-node}
use Rattle.cds_integrate.proofs.RowLaws.{reach-on, reach-end}

-- each sample of a trace is one
sample-is : (signal : Signal) (i : ℕ) → IsTrace signal → i < length signal.samples → IsSample (sample_at signal i)
sample-is signal i trace inside = All-get_or IsSample signal.samples i (pos 0) inside trace.samples

-- a part of the baseline lies on its line
pub plain-is : (signal : Signal) (nodes : List ℕ) (part : Part) → IsTrace signal → IsPart signal part →
    part.start < part.end →
    part.end ≤ first_behind nodes part.start → first_behind nodes part.start < length signal.samples →
    IsShape signal (plain_shape signal nodes part)
plain-is signal nodes part trace is order clear within =
    let low : last_up_to nodes part.start ≤ part.start = last_up_to-low nodes part.start 0 (omega arith) in
    record {
      low = is.low;
      high = is.high;
      order = order;
      reaches = omega arith;
      from = low;
      to = clear;
      within = within;
      levels = (
        sample-is signal (last_up_to nodes part.start) trace (omega (arith, low, order, clear, within)),
        sample-is signal (first_behind nodes part.start) trace within,
      );
      crest = is.crest;
      exact = λ is. absurd (grind (arith, common_steps));
      over = λ is. absurd (grind (arith, common_steps));
    }

-- and so does a rider
pub rider-is : (signal : Signal) (part : Part) → IsTrace signal → part.end < length signal.samples →
    IsPart signal part → part.start < part.end →
    part.start < tangent_sample signal part.start part.end → tangent_sample signal part.start part.end ≤ part.end →
    part.apex < tangent_sample signal part.start part.end →
    ((k : ℕ) → part.start ≤ k → k ≤ tangent_sample signal part.start part.end → is_over signal part.start
    (tangent_sample signal part.start part.end) k ≡ true) →
    IsShape signal (rider_shape signal part)
rider-is signal part trace within is order beyond inside high over =
    let j : ℕ = tangent_sample signal part.start part.end in
    let whole = chord-whole signal part.start j beyond (omega (arith, inside, within)) over in
    record {
      low = is.low;
      high = omega (arith, high);
      order = beyond;
      reaches = inside;
      from = omega arith;
      to = omega arith;
      within = omega (arith, inside, within);
      levels = (
        sample-is signal part.start trace (omega (arith, order, within)),
        sample-is signal j trace (omega (arith, inside, within)),
      );
      crest = λ rises falls. is.crest rises (omega (arith, falls, inside));
      exact = λ _. whole.exact;
      over = λ _. whole.least;
    }

free-of : (b : Bool) → not b ≡ true → b ≡ false
free-of true h = sym h
free-of false h = refl

-- a rider doesn't begin at a node
pub rider-apart : (signal : Signal) (events : List Event) (nodes : List ℕ) (part : Part) →
    is_rider signal events nodes part ≡ true →
    list_any (λ other. other == part.start) nodes ≡ false
rider-apart signal events nodes part is =
    let skim : Bool = list_any (skims (part.start * signal.period)) events in
    let node : Bool = list_any (λ other. other == part.start) nodes in
    let skimmed = (and_parts (is_skimmed signal events nodes part)
    (nat_lt part.apex (tangent_sample signal part.start part.end)) is).0 in
    let rest = (and_parts (is_valley part.left) (skim && not node) skimmed).1 in
    let free = (and_parts skim (not node) rest).1 in
    free-of node free

-- riders ahead reach no farther than a node that doesn't lie before them
pub reach-clear : (signal : Signal) (events : List Event) (nodes : List ℕ) (node reach start end : ℕ)
    (parts : List Part) → Tiles start parts end →
    reach ≤ node → start ≤ node → IsClear parts node → list_any (λ other. other == node) nodes ≡ true →
    from_reach reach (map (shape_of signal events nodes) parts) ≤ node
reach-clear signal events nodes node reach start end [] tiled low at clear among = low
reach-clear signal events nodes node reach start end (part ∷ parts) tiled low at clear among =
    elim (cases_Bool (is_rider signal events nodes part)) [
      | inl is ↦
          let shape : shape_of signal events nodes part ≡ rider_shape signal part = rw is refl in
          let beyond : part.end ≤ node = elim clear.0 [
            | inl before ↦
                let same : part.start ≡ node = omega (arith, tiled.0, before, at) in
                let apart : list_any (λ other. other == part.start) nodes ≡ false =
                rider-apart signal events nodes part is in
                absurd (grind (arith, common_steps, among, rw same at apart))
            | inr behind ↦ behind
          ] in
          rw (shape, reach-on reach (rider_shape signal part) (map (shape_of signal events nodes) parts) refl)
          (reach-clear signal events nodes node part.end part.end end parts tiled.2 beyond beyond clear.1 among)
      | inr other ↦
          let shape : shape_of signal events nodes part ≡ plain_shape signal nodes part = rw other refl in
          rw (
            shape,
            reach-end reach (plain_shape signal nodes part)
                (map (shape_of signal events nodes) parts) refl,
          ) low
    ]

-- the parts of a cluster stand in a row, each on a line that reaches as far as its area goes
pub row-of : (signal : Signal) (events : List Event) (nodes : List ℕ) (every : List Part) (end : ℕ) →
    ((at : ℕ) → at < end → IsNextNode nodes every end at (first_behind nodes at)) →
    (start : ℕ) (parts : List Part) → Tiles start parts end → ((n : ℕ) → IsClear every n → IsClear parts n) →
    All (IsShape signal) (map (shape_of signal events nodes) parts) →
    InRow signal start (map (shape_of signal events nodes) parts) end
row-of signal events nodes every end next start [] tiled clear shapes = tiled
row-of signal events nodes every end next start (part ∷ parts) tiled clear shapes =
    let later : List Shape = map (shape_of signal events nodes) parts in
    let inside = tiles-order part.end end parts tiled.2 in
    let node = next part.start (omega (arith, tiled.0, tiled.1, inside)) in
    let here = clear (first_behind nodes part.start) node.clear in
    let rest = row-of signal events nodes every end next part.end parts tiled.2 (λ n h. (clear n h).1)
    (λ k d below. shapes (suc k) d (omega arith)) in
    let first : IsShape signal (shape_of signal events nodes part) =
    shapes 0 (shape_of signal events nodes part) (omega arith) in
    elim (cases_Bool (is_rider signal events nodes part)) [
      | inl is ↦
          let shape : shape_of signal events nodes part ≡ rider_shape signal part = rw is refl in
          rw shape (tiled.0, rw shape at first, omega arith, rest)
      | inr other ↦
          let shape : shape_of signal events nodes part ≡ plain_shape signal nodes part = rw other refl in
          let beyond : part.end ≤ first_behind nodes part.start = elim here.0 [
            | inl before ↦ absurd (omega (arith, before, node.behind))
            | inr behind ↦ behind
          ] in
          rw shape (
            tiled.0,
            rw shape at first,
            reach-clear signal events nodes
                (first_behind nodes part.start) part.end part.end end parts tiled.2 beyond beyond here.1 node.among,
            rest,
          )
    ]

-- the node behind each sample of a cluster
pub cluster-next : (signal : Signal) (events : List Event) (cluster : Cluster) → IsCluster signal 0 cluster →
    (at : ℕ) → at < cluster.end →
    IsNextNode (nodes_of signal events cluster) cluster.parts cluster.end at
    (first_behind (nodes_of signal events cluster) at)
cluster-next signal events cluster is at before =
    next-node signal cluster (map (is_covered signal events) cluster.parts) at is.some is.tiled
    (length-map cluster.parts (is_covered signal events)) before

-- each part of a cluster stands over its baseline
pub cluster-over : (signal : Signal) (events : List Event) (cluster : Cluster) → IsCluster signal 0 cluster →
    All (IsOver signal (nodes_of signal events cluster)) cluster.parts
cluster-over signal events cluster is k d below =
    let part : Part = slice_index_or cluster.parts k d in
    let here = part-within cluster.start cluster.end k cluster.parts d is.tiled below in
    let node = cluster-next signal events cluster is part.start (omega (arith, here.1, here.2)) in
    record {
      part_is = is.parts k d below;
      order = here.1;
      clear = elim (clear-at (first_behind (nodes_of signal events cluster) part.start) k cluster.parts d node.clear
          below) [
            | inl before ↦ absurd (omega (arith, before, node.behind))
            | inr behind ↦ behind
          ];
      within = omega (arith, node.within, is.ends);
    }

-- a baseline over the marks of a cluster's parts has the cluster's nodes
pub nodes-are : (signal : Signal) (events : List Event) (cluster : Cluster) (parts : List Part) (marks : List Bool)
    (bends : List ℕ) → parts ≡ cluster.parts → marks ≡ map (is_covered signal events) parts →
    bends ≡ cluster_nodes signal cluster marks → bends ≡ nodes_of signal events cluster
nodes-are signal events cluster parts marks bends parts_are marks_are bends_are =
    bends_are ∙ ap (cluster_nodes signal cluster) (marks_are ∙ ap (map (is_covered signal events)) parts_are)

-- shapes over a cluster's parts and nodes are those of the cluster
pub shapes-are : (signal : Signal) (events : List Event) (cluster : Cluster) (parts : List Part) (bends : List ℕ)
    (shapes : List Shape) → parts ≡ cluster.parts → bends ≡ nodes_of signal events cluster →
    shapes ≡ map (shape_of signal events bends) parts → shapes ≡ shapes_of signal events cluster
shapes-are signal events cluster parts bends shapes parts_are bends_are shapes_are =
    shapes_are ∙ (ap (λ nodes. map (shape_of signal events nodes) parts) bends_are
    ∙ ap (map (shape_of signal events (nodes_of signal events cluster))) parts_are)
