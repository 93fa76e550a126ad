use Rattle.std.proofs.Common.{◌≡◌, ◌∙◌, refl, sym, ap}
use Rattle.std.proofs.Common.{◌+◌, arith}
use Rattle.std.proofs.Common.{map}
use Rattle.std.proofs.lemmas.List.{take-map}
use Rattle.cds_graph.specs.Building.{after}
use Rattle.cds_graph.specs.HeldGraph.{noise_key_shown, noises_shown}
use Rattle.cds_graph.proofs.PoolLaws.{noise-steps_take}
use Rattle.cds_graph.proofs.noises.kept_noises.Goals as goal

pub returns-in_err-add_noise-clause-most : goal.returns-in_err-add_noise-clause-most
returns-in_err-add_noise-clause-most g c =
    omega (
      arith,
      c.add_noise.ensures.most,
      c.loop-place.invariant.most,
      rw (take-map noise_key_shown (c.loop-place.place + 1) c.args.keys.now) at (noise-steps_take (after
          c.args.source.now) (noises_shown c.args.kept.now) (map noise_key_shown c.args.keys.now) (c.loop-place.place +
          1)),
    )
