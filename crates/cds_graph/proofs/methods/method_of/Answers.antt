use Rattle.std.proofs.Common.{◌≡◌, ◌∙◌, refl, sym, ap}
use Rattle.std.specs.Prelude.{is_some}
use Rattle.cds_graph.specs.Building.{after}
use Rattle.cds_graph.specs.HeldGraph.{method_node_shown}
use Rattle.cds_graph.proofs.MadeLaws.{method-made}
use Rattle.cds_graph.proofs.PoolLaws.{method-kept}
use Rattle.cds_graph.proofs.methods.method_of.Goals as goal

pub returns-in-Some : goal.returns-in-Some
returns-in-Some c =
    ap method_node_shown c.in_ok-clone.ensures.cases
    ∙ method-kept (after c.args.source.now) c.args.kept.now c.args.key.now c.in-Some.node.now c.requires.right
    (sym c.in-Some.ensures)

pub returns : goal.returns
returns c =
    ap method_node_shown c.in_ok-new.ensures.ok
    ∙ method-made (after c.args.source.now) c.args.key.now c.in-Some-method.text.now c.in_ok-node.node
    c.in-Some-method.ensures
    c.in_ok-node.ensures.named.0 c.in_ok-node.ensures.named.1 c.in_ok-node.ensures.value
