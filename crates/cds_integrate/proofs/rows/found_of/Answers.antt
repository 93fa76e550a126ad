use Rattle.std.proofs.Common.{◌<◌, List, length, sym, arith}
use Rattle.std.specs.List.{flat_map}
use Rattle.cds_base.specs.declared.cluster.Cluster.{Cluster}
use Rattle.cds_rules.specs.Fields.{fields_of, row_events}
use Rattle.cds_integrate.specs.Row.{found_in}
use Rattle.cds_integrate.specs.Peaks.{Found}
use Rattle.cds_integrate.proofs.FoundLaws.{cluster-anywhere, clusters-at, flat-on}
use Rattle.cds_integrate.proofs.rows.found_of.Goals as goal

pub add_found-requires-clause-cluster : goal.add_found-requires-clause-cluster
add_found-requires-clause-cluster g c =
    let at = c.loop-cluster.invariant.at in
    let cluster = c.cluster-item.result in
    let here = clusters-at c.args.trace.now c.args.clusters.now cluster c.loop-cluster.cluster-index at.0
    c.loop-cluster-test.true at.1 in
    cluster-anywhere c.args.trace.now at.0 cluster (rw (sym c.cluster-item.is) at here).0

pub loop-cluster-preserved : goal.loop-cluster-preserved
loop-cluster-preserved g c =
    let signal = c.args.trace.now in
    let clusters = c.args.clusters.now in
    let i = c.loop-cluster.cluster-index in
    let cluster = c.cluster-item.result in
    let kept = c.loop-cluster.invariant in
    let below : i < length clusters = c.loop-cluster-test.true in
    let here = rw (sym c.cluster-item.is) at (clusters-at signal clusters cluster i kept.at.0 below kept.at.1) in
    let f : Cluster → List Found =
    found_in signal (fields_of c.args.method.now) (row_events (fields_of c.args.method.now) c.args.manual.now) in
    let old : List Found = c.loop-cluster.found.items in
    record {
      items = rw c.in_ok-add_found.ensures.value (flat-on f clusters cluster i old
          (flat_map f clusters) below c.cluster-item.is kept.items);
      kept = c.add_found.ensures.kept;
      least = omega (arith, kept.least, c.add_found.ensures.least);
      at = (
        cluster.end,
        here.1,
        omega (arith, c.in_ok-add_found.ensures.wide, kept.at.2, here.0.follows),
        here.0.ends,
        omega (arith, c.add_found.ensures.most, kept.at.4, here.0.follows),
      );
    }
