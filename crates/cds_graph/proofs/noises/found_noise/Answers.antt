use Rattle.std.proofs.Common.{◌≡◌, ◌∙◌, refl, sym, ap}
use Rattle.cds_graph.specs.Building.{after}
use Rattle.cds_graph.specs.HeldGraph.{noise_key_shown}
use Rattle.cds_graph.proofs.MadeLaws.{noise-made, noise-made_steps}
use Rattle.cds_graph.proofs.noises.found_noise.Goals as goal

pub returns-clause-value : goal.returns-clause-value
returns-clause-value g c =
    noise-made (after c.args.source.now) (noise_key_shown c.args.key.now) c.in-Some.trace.now c.noise-noise.result
    c.in-Some.ensures c.noise-noise.ensures.value

pub returns-clause-most : goal.returns-clause-most
returns-clause-most g c =
    noise-made_steps (after c.args.source.now) (noise_key_shown c.args.key.now) c.in-Some.trace.now _ _
    c.in-Some.ensures c.noise-noise.ensures.counted
