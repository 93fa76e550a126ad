use Rattle.std.proofs.Common.{◌≡◌, ◌∙◌, refl, sym, ap}
use Rattle.std.proofs.Common.{arith}
use Rattle.cds_graph.specs.Building.{after}
use Rattle.cds_graph.specs.HeldGraph.{noise_key_shown}
use Rattle.cds_graph.proofs.PoolLaws.{noise-kept, noise-steps_one}
use Rattle.cds_graph.proofs.noises.noise_of.Goals as goal

pub returns-in-Some-clause-value : goal.returns-in-Some-clause-value
returns-in-Some-clause-value g c =
    noise-kept (after c.args.source.now) c.args.kept.now (noise_key_shown c.args.key.now) c.in-Some.node.now
    c.requires.right (sym c.in-Some.ensures)

pub returns-clause-most : goal.returns-clause-most
returns-clause-most g c =
    rw (noise-steps_one (after c.args.source.now) c.args.kept.now (noise_key_shown c.args.key.now)
    (sym c.in_default.ensures)) c.found_noise.ensures.most
