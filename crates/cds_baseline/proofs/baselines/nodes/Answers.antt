use Rattle.std.proofs.Common.{◌≡◌, ◌∙◌, ◌+◌, ◌≤◌, [], ◌∷◌, ◌++◌, true, length, arith, refl}
use Rattle.cds_baseline.specs.Cluster.{valleys, marks, inner}
use Rattle.cds_baseline.proofs.PointLaws.{inner-slice, cluster-ready}
use Rattle.cds_baseline.proofs.baselines.nodes.Goals as goal

pub hull-requires : goal.hull-requires
hull-requires g c =
    let cluster = c.args.cluster.now in
    let from = c.first_inner-from.ensures in
    let points : c.as_slice-2.result.now ≡ cluster.start ∷ valleys (inner cluster.forced cluster.parts) ++ cluster.end ∷ [] =
    c.as_slice-2.ensures.value ∙ rw (c.as_slice.ensures, from, inner-slice cluster.forced cluster.parts) at c.in_ok-points.ensures in
    let fixed : c.as_slice-3.result.now ≡ true ∷ marks (inner cluster.forced cluster.parts) (inner cluster.forced c.args.covered.now) ++ true ∷ [] =
    c.as_slice-3.ensures.value ∙ rw (c.as_slice.ensures, from, inner-slice cluster.forced cluster.parts, ← c.requires.covered, inner-slice cluster.forced c.args.covered.now) at c.in_ok-fixed.ensures in
    let ready = cluster-ready cluster.start cluster.end cluster.forced cluster.parts c.args.covered.now (length c.args.trace.now.samples)
    c.requires.some c.requires.tiled c.requires.within c.requires.covered in
    record {
      some = rw points (omega arith);
      whole = rw (points, fixed) ready.whole;
      rising = rw points ready.rising;
      within = rw points ready.within;
      first = rw fixed refl;
      last = rw (points, fixed) ready.last;
    }

pub returns-clause-most : goal.returns-clause-most
returns-clause-most g c =
    let cluster = c.args.cluster.now in
    let points : c.as_slice-2.result.now ≡ cluster.start ∷ valleys (inner cluster.forced cluster.parts) ++ cluster.end ∷ [] =
    c.as_slice-2.ensures.value ∙ rw (c.as_slice.ensures, c.first_inner-from.ensures, inner-slice cluster.forced cluster.parts) at c.in_ok-points.ensures in
    let ready = cluster-ready cluster.start cluster.end cluster.forced cluster.parts c.args.covered.now (length c.args.trace.now.samples)
    c.requires.some c.requires.tiled c.requires.within c.requires.covered in
    let count : length c.as_slice-2.result.now ≤ length cluster.parts + 1 = rw points ready.few in
    omega (arith, c.hull.ensures.most)
