use Rattle.std.proofs.Common.{◌≡◌, ◌∙◌, refl, sym, ap}
use Rattle.cds_graph.specs.Building.{after}
use Rattle.cds_graph.specs.HeldGraph.{noise_key_shown}
use Rattle.cds_graph.specs.Kept.{KeptNoise}
use Rattle.cds_graph.proofs.MadeLaws.{none-found}
use Rattle.cds_graph.proofs.PoolLaws.{noise-is, noise-there}
use Rattle.cds_graph.proofs.gather.known_noise.Goals as goal

pub unreachable-requires : goal.unreachable-requires
unreachable-requires c =
    none-found _ c.in_default.ensures
    (noise-there (after c.args.source.now) c.args.nodes.now (noise_key_shown c.args.key.now) c.requires.noises
    c.requires.known)

pub returns : goal.returns
returns c =
    ap (λ (n : KeptNoise). n.noise)
    (noise-is (after c.args.source.now) c.args.nodes.now (noise_key_shown c.args.key.now) c.in-Some.node.now
    c.requires.noises (sym c.in-Some.ensures))
