use Rattle.std.proofs.Common.{refl, ◌≡◌, ◌∙◌, ℕ, ◌++◌, List, [], ◌∷◌, Bool, length, take, ◌<◌, arith, ap}
use Rattle.cds_base.specs.declared.cluster.Cluster.{Cluster}
use Rattle.cds_events.specs.Placed.{Placed}
use Rattle.cds_events.specs.Runs.{fused}
use Rattle.cds_events.specs.Arrangement.{cluster_of, end_of}
use Rattle.cds_events.specs.Ordered.{reached}
use Rattle.cds_events.proofs.ClusterLaws.{runs-split, made-more, reached-push, run-ends}
use Rattle.cds_events.proofs.arrangement.clusters_of_runs.Goals as goal

pub cluster_of-requires-clause-ordered : goal.cluster_of-requires-clause-ordered
cluster_of-requires-clause-ordered g c =
    let told = c.run_length-count.ensures in
    let stand = runs-split c.args.trace.now (reached c.loop-rest.clusters.items)
    (fused c.args.gap c.args.pieces.now) c.loop-rest.rest.now c.run_length-count.result
    (omega arith) told.value c.loop-rest.invariant.runs in
    rw c.split_at.ensures.front stand.2

pub returns-in_err-cluster_of-clause-most : goal.returns-in_err-cluster_of-clause-most
returns-in_err-cluster_of-clause-most g c =
    let told = c.run_length-count.ensures in
    let rest : List Placed = c.loop-rest.rest.now in
    let count : ℕ = c.run_length-count.result in
    let stand = runs-split c.args.trace.now (reached c.loop-rest.clusters.items)
    (fused c.args.gap c.args.pieces.now) rest count (omega arith) told.value c.loop-rest.invariant.runs in
    let most = rw c.split_at.ensures.front at c.cluster_of.ensures.most in
    omega (
      arith,
      c.loop-rest.invariant.most,
      most,
      stand.0,
      run-ends c.args.trace.now
          (take count rest) stand.1 stand.2,
    )

pub returns-in_err-push-clause-most : goal.returns-in_err-push-clause-most
returns-in_err-push-clause-most g c =
    let told = c.run_length-count.ensures in
    let rest : List Placed = c.loop-rest.rest.now in
    let count : ℕ = c.run_length-count.result in
    let stand = runs-split c.args.trace.now (reached c.loop-rest.clusters.items)
    (fused c.args.gap c.args.pieces.now) rest count (omega arith) told.value c.loop-rest.invariant.runs in
    let most = rw c.split_at.ensures.front at c.cluster_of.ensures.most in
    omega (
      arith,
      c.loop-rest.invariant.most,
      most,
      stand.0,
      run-ends c.args.trace.now
          (take count rest) stand.1 stand.2,
    )

pub loop-rest-preserved : goal.loop-rest-preserved
loop-rest-preserved g c =
    let joins : Placed → Placed → Bool = fused c.args.gap c.args.pieces.now in
    let rest : List Placed = c.loop-rest.rest.now in
    let count : ℕ = c.run_length-count.result in
    let kept = c.loop-rest.invariant in
    let told = c.run_length-count.ensures in
    let some : 0 < length rest = omega arith in
    let stand = runs-split c.args.trace.now (reached c.loop-rest.clusters.items) joins rest count some told.value
    kept.runs in
    let cluster : Cluster = cluster_of c.args.trace.now c.args.drops.now (take count rest) in
    let front : c.split_at.result.0.now ≡ take count rest = c.split_at.ensures.front in
    let is : c.in_ok-cluster_of.field-0 ≡ cluster = rw front at c.in_ok-cluster_of.ensures.value in
    let made : c.push.new.self.items ≡ c.loop-rest.clusters.items ++ cluster ∷ [] =
    rw (c.in_ok-push.ensures.items, is) refl in
    let end : reached c.push.new.self.items ≡ end_of (take count rest) =
    ap reached made ∙ reached-push c.loop-rest.clusters.items cluster in
    let most = rw c.split_at.ensures.front at c.cluster_of.ensures.most in
    let ends = run-ends c.args.trace.now (take count rest) stand.1 stand.2 in
    record {
      value = rw (made, c.split_at.ensures.back) (made-more c.args.trace.now c.args.drops.now joins
          c.loop-rest.clusters.items rest c.args.peaks.now count some told.value kept.value);
      runs = rw (end, c.split_at.ensures.back) stand.3;
      within = omega (arith, end, ends);
      least = omega (arith, kept.least, c.cluster_of.ensures.least);
      most = omega (arith, kept.most, most, end, stand.0);
    }
