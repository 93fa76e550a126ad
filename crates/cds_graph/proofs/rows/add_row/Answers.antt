use Rattle.std.proofs.Common.{◌≡◌, ◌∙◌, refl, sym, ap}
use Rattle.std.proofs.Common.{arith, map, true, false}
use Rattle.cds_graph.specs.Building.{after, new_row_steps}
use Rattle.cds_graph.specs.HeldGraph.{rows_shown}
use Rattle.cds_graph.specs.Kept.{row_under}
use Rattle.cds_graph.proofs.MadeLaws.{some-tested}
use Rattle.cds_graph.proofs.PoolLaws.{row-known, row-unknown, row-added, row-steps_more}
use Rattle.cds_graph.proofs.rows.add_row.Goals as goal

pub returns-then-is_some-clause-value : goal.returns-then-is_some-clause-value
returns-then-is_some-clause-value g c =
    c.requires.before ∙ sym (ap (map (row_under (after c.args.source.now)))
    (row-known (after c.args.source.now) c.args.nodes.now.items c.args.keys.now c.args.place
    c.index-keys-place.result c.requires.within
    c.index-keys-place.is c.requires.before
    (some-tested _ c.row_node.result _ c.is_some.result true (rw c.deref.ensures.value at c.row_node.ensures)
    c.is_some.ensures c.if-is_some.true)))

pub returns-then-is_some-clause-most : goal.returns-then-is_some-clause-most
returns-then-is_some-clause-most g c =
    rw (row-known (after c.args.source.now) c.args.nodes.now.items c.args.keys.now c.args.place
    c.index-keys-place.result c.requires.within
    c.index-keys-place.is c.requires.before
    (some-tested _ c.row_node.result _ c.is_some.result true (rw c.deref.ensures.value at c.row_node.ensures)
    c.is_some.ensures c.if-is_some.true))
    (omega arith)

pub returns-in_err-node-clause-most : goal.returns-in_err-node-clause-most
returns-in_err-node-clause-most g c =
    rw (row-steps_more (after c.args.source.now) (rows_shown c.args.kept.now) c.args.keys.now c.args.place
    c.index-keys-place.result c.requires.within
    c.index-keys-place.is
    (row-unknown (after c.args.source.now) c.args.nodes.now.items c.args.keys.now c.args.place
    c.index-keys-place.result c.requires.before
    (some-tested _ c.row_node.result _ c.is_some.result false (rw c.deref.ensures.value at c.row_node.ensures)
    c.is_some.ensures
    c.if-is_some.false))) (omega (arith, c.row_of.ensures.most))

pub returns-in_err-push-clause-most : goal.returns-in_err-push-clause-most
returns-in_err-push-clause-most g c =
    rw (row-steps_more (after c.args.source.now) (rows_shown c.args.kept.now) c.args.keys.now c.args.place
    c.index-keys-place.result c.requires.within
    c.index-keys-place.is
    (row-unknown (after c.args.source.now) c.args.nodes.now.items c.args.keys.now c.args.place
    c.index-keys-place.result c.requires.before
    (some-tested _ c.row_node.result _ c.is_some.result false (rw c.deref.ensures.value at c.row_node.ensures)
    c.is_some.ensures
    c.if-is_some.false))) (omega (arith, c.row_of.ensures.most))

pub returns-clause-most : goal.returns-clause-most
returns-clause-most g c =
    rw (row-steps_more (after c.args.source.now) (rows_shown c.args.kept.now) c.args.keys.now c.args.place
    c.index-keys-place.result c.requires.within
    c.index-keys-place.is
    (row-unknown (after c.args.source.now) c.args.nodes.now.items c.args.keys.now c.args.place
    c.index-keys-place.result c.requires.before
    (some-tested _ c.row_node.result _ c.is_some.result false (rw c.deref.ensures.value at c.row_node.ensures)
    c.is_some.ensures
    c.if-is_some.false))) (omega (arith, c.row_of.ensures.most))

pub returns-clause-value : goal.returns-clause-value
returns-clause-value g c =
    rw c.in_ok-push.ensures.items
    (row-added (after c.args.source.now) c.args.nodes.now.items c.in_ok-node.node c.args.keys.now c.args.place
    c.index-keys-place.result c.requires.within
    c.index-keys-place.is c.requires.before
    (some-tested _ c.row_node.result _ c.is_some.result false (rw c.deref.ensures.value at c.row_node.ensures)
    c.is_some.ensures c.if-is_some.false)
    c.in_ok-node.ensures.value)
