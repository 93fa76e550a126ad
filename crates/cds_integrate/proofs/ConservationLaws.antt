-- Conservation in a row: between two nodes of a cluster lie no other cluster's parts.
use Rattle.std.proofs.Common.{◌≡◌, ℕ, zero, suc, ◌<◌, ◌≤◌, List, [], ◌∷◌, map, length, All, refl, sym, subst, ◌∙◌}
use Rattle.std.proofs.Common.{append-nil, arith}
use Rattle.std.specs.Prelude.{slice_index_or}
use Rattle.std.specs.List.{filter, flat_map}
use Rattle.std.proofs.lemmas.List.{length-map}
use Rattle.std.proofs.lemmas.List.Elements.{filter-append}
use Rattle.cds_base.specs.declared.event.Event.{Event}
use Rattle.cds_base.specs.declared.peak.RawPeak.{RawPeak}
use Rattle.cds_base.specs.declared.cluster.Cluster.{Cluster}
use Rattle.cds_rules.specs.Fields.{Fields, row_events}
use Rattle.cds_trace.specs.Signal.{Signal, IsTrace}
use Rattle.cds_detect.specs.Raw.{raw_peaks_of}
use Rattle.cds_detect.specs.Settings.{settings_of}
use Rattle.cds_integrate.proofs.RawLaws.{raw-stand}
use Rattle.cds_events.specs.Arrangement.{gap_of}
use Rattle.cds_events.specs.Standing.{IsCluster, ClustersFrom}
use Rattle.cds_events.proofs.ClusterLaws.{clusters_of-stand}
use Rattle.cds_integrate.specs.Shapes.{Shape}
use Rattle.cds_integrate.specs.Measures.{Measured}
use Rattle.cds_integrate.specs.Shapes.{is_covered, nodes_of, shapes_of}
use Rattle.cds_integrate.specs.Measures.{measure, measured}
use Rattle.cds_integrate.specs.Row.{row_clusters, parts_in}
use Rattle.cds_integrate.specs.Sums.{area_fraction, lies_within, AreWhole, IsConserved, EachTwo, Conserves}
use Rattle.cds_integrate.specs.Standing.{InRow}
use Rattle.cds_integrate.proofs.PartLaws.{IsClear}
use Rattle.cds_integrate.proofs.NodeLaws.{Each, each-more}
use Rattle.cds_integrate.proofs.OrderLaws.{cluster-nodes}
use Rattle.cds_integrate.proofs.FoundLaws.{row-count, cluster-anywhere}
use Rattle.cds_integrate.proofs.TangentLaws.{cluster-row}
use Rattle.cds_integrate.proofs.SumLaws.{filter-out, within-not-left, none-within, cluster-conserved}

-- no part that ends before the left one, or at it
none-before : (signal : Signal) (a b start end : ℕ) (shapes : List Shape) → end ≤ a → InRow signal start shapes end →
    filter (lies_within a b) (measured signal shapes) ≡ []
none-before signal a b start end [] before row = refl
none-before signal a b start end (shape ∷ later) before row =
    let out = within-not-left a b (measure signal shape later)
    (omega (arith, before, row.1.order, row.1.reaches, row-count signal later shape.reach end row.3)) in
    filter-out signal a b shape later out ∙ none-before signal a b shape.reach end later before row.3

-- no part of clusters that begin at the right one or behind it
none-behind : (signal : Signal) (events : List Event) (a b at : ℕ) (clusters : List Cluster) → IsTrace signal →
    ClustersFrom signal at clusters → b ≤ at →
    filter (lies_within a b) (flat_map (parts_in signal events) clusters) ≡ []
none-behind signal events a b at [] trace from behind = refl
none-behind signal events a b at (cluster ∷ clusters) trace from behind =
    let row = cluster-row signal events cluster trace (cluster-anywhere signal at cluster from.0) in
    let far = row-count signal (shapes_of signal events cluster) cluster.start cluster.end row in
    let here = none-within signal a b cluster.start cluster.end (shapes_of signal events cluster)
    (omega (arith, behind, from.0.follows)) row in
    let rest = none-behind signal events a b cluster.end clusters trace from.1
    (omega (arith, behind, from.0.follows, far)) in
    filter-append (lies_within a b) (parts_in signal events cluster) (flat_map (parts_in signal events) clusters) ∙ rw
    (here, rest) refl

-- a cluster begins where those before it end, or behind; the parts between two of its samples are its own
record IsOwn (signal : Signal) (events : List Event) (a b at : ℕ) (clusters : List Cluster) (cluster : Cluster) :
    Type 0 where
  is : IsCluster signal 0 cluster
  follows : at ≤ cluster.start
  own : cluster.start ≤ a → b ≤ cluster.end →
      filter (lies_within a b) (flat_map (parts_in signal events) clusters) ≡ filter (lies_within a b)
      (parts_in signal events cluster)

own-parts : (signal : Signal) (events : List Event) (a b at k : ℕ) (clusters : List Cluster) (d : Cluster) →
    IsTrace signal → ClustersFrom signal at clusters → k < length clusters →
    IsOwn signal events a b at clusters (slice_index_or clusters k d)
own-parts signal events a b at k [] d trace from below = absurd (omega arith)
own-parts signal events a b at zero (cluster ∷ clusters) d trace from below = record {
  is = cluster-anywhere signal at cluster from.0;
  follows = from.0.follows;
  own = λ low high.
      filter-append (lies_within a b) (parts_in signal events cluster) (flat_map (parts_in signal events) clusters)
      ∙ rw (none-behind signal events a b cluster.end clusters trace from.1 high)
      (append-nil (filter (lies_within a b) (parts_in signal events cluster)));
}
own-parts signal events a b at (suc k) (cluster ∷ clusters) d trace from below =
    let there = own-parts signal events a b cluster.end k clusters d trace from.1 (omega arith) in
    let row = cluster-row signal events cluster trace (cluster-anywhere signal at cluster from.0) in
    let far = row-count signal (shapes_of signal events cluster) cluster.start cluster.end row in
    record {
      is = there.is;
      follows = omega (arith, from.0.follows, far, there.follows);
      own = λ low high.
          filter-append (lies_within a b) (parts_in signal events cluster) (flat_map (parts_in signal events) clusters)
          ∙ rw (none-before signal a b cluster.start cluster.end (shapes_of signal events cluster)
          (omega (arith, low, there.follows)) row) (there.own low high);
    }

-- what holds of each two samples in a row
pub two-more : (P Q : ℕ → ℕ → Type 0) (R : ℕ → Type 0) (samples : List ℕ) → ((a b : ℕ) → R a → R b → P a b → Q a b) →
    Each R samples → EachTwo P samples → EachTwo Q samples
two-more P Q R [] f each holds = tt
two-more P Q R (a ∷ []) f each holds = tt
two-more P Q R (a ∷ b ∷ samples) f each holds =
    (f a b each.0 each.1.0 holds.0, two-more P Q R (b ∷ samples) f each.1 holds.1)

-- the nodes of a cluster lie in it
nodes-within : (signal : Signal) (events : List Event) (cluster : Cluster) → IsCluster signal 0 cluster →
    Each (λ n. (cluster.start ≤ n) × (n ≤ cluster.end)) (nodes_of signal events cluster)
nodes-within signal events cluster is =
    let are = cluster-nodes signal cluster (map (is_covered signal events) cluster.parts) is.some is.tiled
    (length-map cluster.parts (is_covered signal events)) in
    each-more (λ n. (cluster.start ≤ n) × (n ≤ cluster.end) × IsClear cluster.parts n)
    (λ n. (cluster.start ≤ n) × (n ≤ cluster.end)) (nodes_of signal events cluster)
    (λ n h. (h.0, h.1)) are.places

-- the areas of all parts over each baseline line of clusters one after the other
clusters-conserved : (signal : Signal) (events : List Event) (clusters : List Cluster) → IsTrace signal →
    ClustersFrom signal 0 clusters →
    All (λ cluster. EachTwo (IsConserved signal (flat_map (parts_in signal events) clusters))
    (nodes_of signal events cluster)) clusters
clusters-conserved signal events clusters trace from k d below =
    let cluster : Cluster = slice_index_or clusters k d in
    let parts : List Measured = flat_map (parts_in signal events) clusters in
    let is : IsCluster signal 0 cluster = (own-parts signal events 0 0 0 k clusters d trace from below).is in
    two-more (IsConserved signal (parts_in signal events cluster)) (IsConserved signal parts)
    (λ n. (cluster.start ≤ n) × (n ≤ cluster.end)) (nodes_of signal events cluster)
    (λ a b left right whole.
    let own = (own-parts signal events a b 0 k clusters d trace from below).own left.0 right.1 in
    subst (λ (kept : List Measured). AreWhole signal a b (map area_fraction kept)) (sym own) whole)
    (nodes-within signal events cluster is) (cluster-conserved signal events cluster is
    (cluster-row signal events cluster trace is))

-- the clusters of each row stand one after the other
pub row-clusters : (signal : Signal) (fields : Fields) (manual : List Event) → IsTrace signal →
    ClustersFrom signal 0 (row_clusters signal fields manual)
row-clusters signal fields manual trace =
    let raw : List RawPeak = raw_peaks_of signal (settings_of fields manual) in
    let stand = raw-stand signal (settings_of fields manual) trace.enough in
    clusters_of-stand signal (gap_of fields) (row_events fields manual) raw trace.enough stand

-- the areas of all parts of each row
pub conserves : (signal : Signal) (fields : Fields) (manual : List Event) → IsTrace signal →
    Conserves signal fields manual
conserves signal fields manual trace =
    clusters-conserved signal (row_events fields manual) (row_clusters signal fields manual) trace
    (row-clusters signal fields manual trace)
