-- Where tangents end, over the definition alone, and with it how the parts of each cluster stand in a row.
use Rattle.std.proofs.Common.{ℕ, ◌<◌, inl, inr, List, arith}
use Rattle.std.specs.Prelude.{nat_lt, slice_index_or}
use Rattle.std.proofs.lemmas.Bool.{cases_Bool, and_parts}
use Rattle.std.proofs.lemmas.Grind.{common_steps}
use Rattle.std.proofs.lemmas.List.Elements.{All-map}
use Rattle.cds_base.specs.declared.event.Event.{Event}
use Rattle.cds_base.specs.declared.cluster.Part.{Part}
use Rattle.cds_base.specs.declared.cluster.Cluster.{Cluster}
use Rattle.cds_trace.specs.Signal.{Signal, IsTrace}
use Rattle.cds_baseline.specs.Tangent.{tangent_sample}
use Rattle.cds_baseline.proofs.TangentLaws.{tangent-is}
use Rattle.cds_events.specs.Standing.{IsCluster}
use Rattle.cds_integrate.specs.Shapes.{nodes_of, is_skimmed, is_rider, shape_of, shapes_of}
use Rattle.cds_integrate.specs.Standing.{IsOver, IsShape, InRow}
use Rattle.cds_integrate.proofs.ShapeLaws.{plain-is, rider-is, row-of, cluster-next, cluster-over}

-- each part over a baseline stands on its line
shape-is : (signal : Signal) (events : List Event) (nodes : List ℕ) (part : Part) → IsTrace signal →
    IsOver signal nodes part → IsShape signal (shape_of signal events nodes part)
shape-is signal events nodes part trace over =
    elim (cases_Bool (is_rider signal events nodes part)) [
      | inl is ↦
          let tangent = tangent-is signal part.start part.end over.order in
          let high = (and_parts (is_skimmed signal events nodes part)
          (nat_lt part.apex (tangent_sample signal part.start part.end)) is).1 in
          let apex : part.apex < tangent_sample signal part.start part.end = grind (arith, common_steps) in
          rw is (rider-is signal part trace (omega (
            arith,
            over.clear,
            over.within,
          )) over.part_is over.order tangent.beyond tangent.inside apex tangent.clear)
      | inr other ↦ rw other (plain-is signal nodes part trace over.part_is over.order over.clear over.within)
    ]

-- the parts of each cluster stand in a row
pub cluster-row : (signal : Signal) (events : List Event) (cluster : Cluster) → IsTrace signal →
    IsCluster signal 0 cluster →
    InRow signal cluster.start (shapes_of signal events cluster) cluster.end
cluster-row signal events cluster trace is =
    let nodes : List ℕ = nodes_of signal events cluster in
    let over = cluster-over signal events cluster is in
    row-of signal events nodes cluster.parts cluster.end (cluster-next signal events cluster is) cluster.start
    cluster.parts is.tiled (λ n h. h)
    (All-map (IsShape signal) (shape_of signal events nodes) cluster.parts
    (λ k d below. shape-is signal events nodes (slice_index_or cluster.parts k d) trace (over k d below)))
