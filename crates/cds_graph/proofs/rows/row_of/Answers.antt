use Rattle.std.proofs.Common.{◌≡◌, ◌∙◌, refl, sym, ap}
use Rattle.cds_graph.specs.Building.{after}
use Rattle.cds_graph.specs.HeldGraph.{row_node_shown}
use Rattle.cds_graph.proofs.PoolLaws.{row-kept, row-steps_one}
use Rattle.cds_graph.proofs.rows.row_of.Goals as goal

pub returns-in-Some-clause-value : goal.returns-in-Some-clause-value
returns-in-Some-clause-value g c =
    ap row_node_shown c.in_ok-clone.ensures.cases
    ∙ row-kept (after c.args.source.now) c.args.kept.now c.args.key.now c.in-Some.node.now c.requires.right (sym
    c.in-Some.ensures)

pub returns-in_err-node-clause-most : goal.returns-in_err-node-clause-most
returns-in_err-node-clause-most g c =
    rw (row-steps_one (after c.args.source.now) c.args.kept.now c.args.key.now (sym c.in_default.ensures))
    c.integrated.ensures.most

pub returns-in_err-new-clause-most : goal.returns-in_err-new-clause-most
returns-in_err-new-clause-most g c =
    rw (row-steps_one (after c.args.source.now) c.args.kept.now c.args.key.now (sym c.in_default.ensures))
    c.integrated.ensures.most

pub returns-clause-most : goal.returns-clause-most
returns-clause-most g c =
    rw (row-steps_one (after c.args.source.now) c.args.kept.now c.args.key.now (sym c.in_default.ensures))
    c.integrated.ensures.most
