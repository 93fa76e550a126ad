use Rattle.std.proofs.Common.{◌≡◌, ◌∙◌, refl, sym, ap}
use Rattle.cds_graph.specs.Building.{after}
use Rattle.cds_graph.proofs.GatherLaws.{row-gathered}
use Rattle.cds_graph.proofs.gather.found_row.Goals as goal

pub returns : goal.returns
returns c =
    row-gathered (after c.args.source.now) c.args.inputs.now c.args.row.now c.in_ok-row.row c.in_ok-key.key
    c.in_ok-node.node.value c.in_ok-key.ensures c.in_ok-node.ensures c.in_ok-row.ensures
