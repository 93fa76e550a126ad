use Rattle.std.proofs.Common.{List, All, subst, ◌∙◌, arith}
use Rattle.cds_base.specs.declared.event.Event.{Event}
use Rattle.cds_rules.specs.Fields.{fields_of, row_events}
use Rattle.cds_integrate.specs.Shapes.{nodes_of}
use Rattle.cds_integrate.specs.Standing.{IsShape}
use Rattle.cds_integrate.proofs.PartLaws.{part-within, tiles-count, tiles-order}
use Rattle.cds_integrate.proofs.ShapeLaws.{cluster-next, cluster-over, nodes-are, row-of, shapes-are}
use Rattle.cds_integrate.proofs.shapes.shapes_of.Goals as goal

pub covered_marks-requires : goal.covered_marks-requires
covered_marks-requires g c = rw c.as_slice-parts.ensures (λ k d below.
    let here = part-within c.args.cluster.now.start c.args.cluster.now.end k c.args.cluster.now.parts d
    c.requires.tiled below in
    omega (arith, here.1, here.2, c.requires.ends))

pub returns-in_err-covered-clause-most : goal.returns-in_err-covered-clause-most
returns-in_err-covered-clause-most g c =
    omega (arith, tiles-order c.args.cluster.now.start c.args.cluster.now.end c.args.cluster.now.parts c.requires.tiled)

pub returns-in_err-baseline-clause-most : goal.returns-in_err-baseline-clause-most
returns-in_err-baseline-clause-most g c =
    omega (
      arith,
      tiles-count c.args.cluster.now.start c.args.cluster.now.end c.args.cluster.now.parts
          c.requires.tiled,
      c.requires.some,
      c.nodes.ensures.most,
    )

pub shapes_over-requires : goal.shapes_over-requires
shapes_over-requires g c =
    let signal = c.args.trace.now in
    let cluster = c.args.cluster.now in
    let events : List Event = row_events (fields_of c.args.method.now) c.args.manual.now in
    let bends = nodes-are signal events cluster _ _ _ c.as_slice-parts.ensures
    (c.deref.ensures.value ∙ c.in_ok-covered.ensures.marks) (c.as_slice-bends.ensures ∙ c.in_ok-baseline.ensures.nodes) in
    rw (c.as_slice-parts.ensures, bends) (cluster-over signal events cluster c.requires)

pub returns-clause-value : goal.returns-clause-value
returns-clause-value g c =
    let signal = c.args.trace.now in
    let cluster = c.args.cluster.now in
    let events : List Event = row_events (fields_of c.args.method.now) c.args.manual.now in
    let bends = nodes-are signal events cluster _ _ _ c.as_slice-parts.ensures
    (c.deref.ensures.value ∙ c.in_ok-covered.ensures.marks) (c.as_slice-bends.ensures ∙ c.in_ok-baseline.ensures.nodes) in
    shapes-are signal events cluster _ _ _ c.as_slice-parts.ensures bends c.in_ok-shapes.ensures.value

pub returns-clause-row : goal.returns-clause-row
returns-clause-row g c =
    let signal = c.args.trace.now in
    let cluster = c.args.cluster.now in
    let events : List Event = row_events (fields_of c.args.method.now) c.args.manual.now in
    let bends = nodes-are signal events cluster _ _ _ c.as_slice-parts.ensures
    (c.deref.ensures.value ∙ c.in_ok-covered.ensures.marks) (c.as_slice-bends.ensures ∙ c.in_ok-baseline.ensures.nodes) in
    let value = shapes-are signal events cluster _ _ _ c.as_slice-parts.ensures bends c.in_ok-shapes.ensures.value in
    rw value (row-of signal events (nodes_of signal events cluster) cluster.parts cluster.end
    (cluster-next signal events cluster c.requires)
    cluster.start cluster.parts c.requires.tiled (λ n h. h) (subst
    (λ xs. All (IsShape signal) xs) value c.in_ok-shapes.ensures.shapes))

pub returns-clause-most : goal.returns-clause-most
returns-clause-most g c =
    let cluster = c.args.cluster.now in
    omega (
      arith,
      tiles-count cluster.start cluster.end cluster.parts c.requires.tiled,
      c.requires.some,
      c.nodes.ensures.most,
      c.shapes_over.ensures.most cluster.start cluster.end
          (rw c.as_slice-parts.ensures c.requires.tiled),
    )

pub returns-in_err-shapes-clause-most : goal.returns-in_err-shapes-clause-most
returns-in_err-shapes-clause-most g c =
    let cluster = c.args.cluster.now in
    omega (
      arith,
      tiles-count cluster.start cluster.end cluster.parts c.requires.tiled,
      c.requires.some,
      c.nodes.ensures.most,
      c.shapes_over.ensures.most cluster.start cluster.end
          (rw c.as_slice-parts.ensures c.requires.tiled),
    )
