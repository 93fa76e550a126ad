use Rattle.std.proofs.Common.{◌≡◌, ◌∙◌, refl, sym, ap}
use Rattle.cds_graph.specs.Building.{after}
use Rattle.cds_graph.specs.HeldGraph.{row_node_shown}
use Rattle.cds_graph.proofs.MadeLaws.{none-found}
use Rattle.cds_graph.proofs.PoolLaws.{row-is, row-there}
use Rattle.cds_graph.proofs.gather.known_row.Goals as goal

pub unreachable-requires : goal.unreachable-requires
unreachable-requires c =
    none-found _ c.in_default.ensures
    (row-there (after c.args.source.now) c.args.nodes.now c.args.key.now c.requires.rows c.requires.known)

pub returns : goal.returns
returns c =
    ap row_node_shown c.in_ok-clone.ensures.cases
    ∙ row-is (after c.args.source.now) c.args.nodes.now c.args.key.now c.in-Some.node.now c.requires.rows (sym
    c.in-Some.ensures)
