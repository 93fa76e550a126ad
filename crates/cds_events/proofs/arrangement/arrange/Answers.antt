use Rattle.std.proofs.Common.{◌≡◌, ◌∙◌, ◌++◌}
use Rattle.cds_rules.specs.Fields.{fields_of}
use Rattle.cds_events.specs.Arrangement.{gap_of, clusters_of}
use Rattle.cds_events.proofs.ClusterLaws.{runs-from, clusters_of-stand, clusters_of-few}
use Rattle.cds_events.proofs.arrangement.arrange.Goals as goal

pub clusters_of_runs-requires : goal.clusters_of_runs-requires
clusters_of_runs-requires g c =
    rw (
      c.deref-4.ensures.value,
      c.deref-2.ensures.value,
      c.in_ok-peaks.ensures,
      c.deref.ensures.value,
      c.in_ok-pieces.ensures,
    )
    (runs-from c.args.trace.now (gap_of (fields_of c.args.method.now))
    (c.args.method.now.events ++ c.args.manual.now) c.args.raw.now c.drop_lines.ensures.trace.enough c.requires)

pub returns-clause-stand : goal.returns-clause-stand
returns-clause-stand g c =
    let events = c.args.method.now.events ++ c.args.manual.now in
    let value : c.from_vec.result ≡ clusters_of c.args.trace.now
    (gap_of (fields_of c.args.method.now)) events c.args.raw.now =
    c.from_vec.ensures ∙ rw (
      c.deref-4.ensures.value,
      c.in_ok-peaks.ensures,
      c.deref.ensures.value,
      c.deref-3.ensures.value,
      c.in_ok-drops.ensures.value,
      c.deref-2.ensures.value,
      c.in_ok-pieces.ensures,
    ) at c.in_ok-clusters.ensures.value in
    rw value (clusters_of-stand c.args.trace.now (gap_of (fields_of c.args.method.now)) events c.args.raw.now
    c.drop_lines.ensures.trace.enough c.requires)

pub returns-clause-few : goal.returns-clause-few
returns-clause-few g c =
    let events = c.args.method.now.events ++ c.args.manual.now in
    let value : c.from_vec.result ≡ clusters_of c.args.trace.now
    (gap_of (fields_of c.args.method.now)) events c.args.raw.now =
    c.from_vec.ensures ∙ rw (
      c.deref-4.ensures.value,
      c.in_ok-peaks.ensures,
      c.deref.ensures.value,
      c.deref-3.ensures.value,
      c.in_ok-drops.ensures.value,
      c.deref-2.ensures.value,
      c.in_ok-pieces.ensures,
    ) at c.in_ok-clusters.ensures.value in
    rw value (clusters_of-few c.args.trace.now (gap_of (fields_of c.args.method.now)) events c.args.raw.now
    c.drop_lines.ensures.trace.enough c.requires)
