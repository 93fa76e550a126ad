use Rattle.std.proofs.Common.{◌≡◌, ◌∙◌, refl, sym, ap}
use Rattle.cds_graph.specs.Building.{after}
use Rattle.cds_graph.specs.HeldGraph.{method_node_shown}
use Rattle.cds_graph.proofs.MadeLaws.{none-found}
use Rattle.cds_graph.proofs.PoolLaws.{method-is, method-there}
use Rattle.cds_graph.proofs.gather.known_method.Goals as goal

pub unreachable-requires : goal.unreachable-requires
unreachable-requires c =
    none-found _ c.in_default.ensures
    (method-there (after c.args.source.now) c.args.nodes.now c.args.key.now c.requires.methods c.requires.known)

pub returns : goal.returns
returns c =
    ap method_node_shown c.in_ok-clone.ensures.cases
    ∙ method-is (after c.args.source.now) c.args.nodes.now c.args.key.now c.in-Some.node.now c.requires.methods (sym
    c.in-Some.ensures)
