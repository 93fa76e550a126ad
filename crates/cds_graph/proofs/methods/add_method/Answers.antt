use Rattle.std.proofs.Common.{◌≡◌, ◌∙◌, refl, sym, ap}
use Rattle.cds_graph.specs.Building.{after}
use Rattle.cds_graph.specs.Kept.{method_under}
use Rattle.std.proofs.Common.{map, true, false}
use Rattle.cds_graph.proofs.MadeLaws.{some-tested}
use Rattle.cds_graph.proofs.PoolLaws.{method-known, method-added}
use Rattle.cds_graph.proofs.methods.add_method.Goals as goal

pub returns-then-is_some : goal.returns-then-is_some
returns-then-is_some c =
    c.requires.before ∙ sym (ap (map (method_under (after c.args.source.now)))
    (method-known (after c.args.source.now) c.args.nodes.now.items c.args.keys.now c.args.place
    c.index-keys-place.result c.requires.within
    c.index-keys-place.is c.requires.before
    (some-tested _ c.method_node.result _ c.is_some.result true (rw c.deref.ensures.value at c.method_node.ensures)
    c.is_some.ensures c.if-is_some.true)))

pub returns : goal.returns
returns c =
    rw c.in_ok-push.ensures.items
    (method-added (after c.args.source.now) c.args.nodes.now.items c.in_ok-node.node c.args.keys.now c.args.place
    c.index-keys-place.result c.requires.within c.index-keys-place.is c.requires.before
    (some-tested _ c.method_node.result _ c.is_some.result false (rw c.deref.ensures.value at c.method_node.ensures)
    c.is_some.ensures c.if-is_some.false) c.in_ok-node.ensures)
