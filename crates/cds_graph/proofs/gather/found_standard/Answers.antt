use Rattle.std.proofs.Common.{◌≡◌, ◌∙◌, refl, sym, ap}
use Rattle.cds_graph.specs.Building.{after}
use Rattle.cds_graph.proofs.GatherLaws.{standard-gathered}
use Rattle.cds_graph.proofs.gather.found_standard.Goals as goal

pub returns : goal.returns
returns c =
    standard-gathered (after c.args.source.now) c.args.listed.now c.args.row.now c.in_ok-row.row c.in_ok-key.key
    c.in_ok-node.node.value c.in_ok-key.ensures c.in_ok-node.ensures c.in_ok-row.ensures
