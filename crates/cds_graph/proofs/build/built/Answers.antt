use Rattle.std.proofs.Common.{◌≡◌, ◌∙◌, refl, sym, ap}
use Rattle.cds_graph.specs.Building.{after}
use Rattle.cds_graph.proofs.RightLaws.{graph_of-built}
use Rattle.cds_graph.proofs.build.built.Goals as goal

pub returns-clause-value : goal.returns-clause-value
returns-clause-value g c =
    graph_of-built (after c.args.source.now) _ _ _ _ c.in_ok-nodes.ensures.methods c.in_ok-nodes.ensures.rows
    c.in_ok-nodes.ensures.noises c.in_ok-sequences.ensures
