use Rattle.std.proofs.Common.{◌≡◌, ◌∙◌, refl, sym, ap}
use Rattle.std.proofs.Common.{◌+◌, arith, map, true, false}
use Rattle.std.proofs.lemmas.List.{take-map}
use Rattle.cds_graph.specs.Building.{after, HoldsNoise}
use Rattle.cds_graph.specs.HeldGraph.{noise_key_shown, noises_shown}
use Rattle.cds_graph.specs.Kept.{noise_under}
use Rattle.cds_graph.proofs.MadeLaws.{some-tested}
use Rattle.cds_graph.proofs.PlaceLaws.{All-read, key-read, key-within}
use Rattle.cds_graph.proofs.PoolLaws.{noise-known, noise-unknown, noise-added, noise-steps_more}
use Rattle.cds_graph.proofs.noises.add_noise.Goals as goal

pub returns-then-is_some-clause-value : goal.returns-then-is_some-clause-value
returns-then-is_some-clause-value g c =
    rw (← take-map noise_key_shown (c.args.place + 1) c.args.keys.now)
    ((rw (← take-map noise_key_shown c.args.place c.args.keys.now) at c.requires.before) ∙ sym (ap (map (noise_under
    (after c.args.source.now)))
    (noise-known (after c.args.source.now) c.args.nodes.now.items (map noise_key_shown c.args.keys.now) c.args.place
    (noise_key_shown c.index-keys-place.result)
    (key-within c.args.keys.now c.args.place c.requires.within)
    (key-read c.args.keys.now c.args.place c.index-keys-place.result c.requires.within c.index-keys-place.is)
    (rw (← take-map noise_key_shown c.args.place c.args.keys.now) at c.requires.before)
    (some-tested _ c.noise_node.result _ c.is_some.result true (rw c.deref.ensures.value at c.noise_node.ensures)
    c.is_some.ensures c.if-is_some.true))))

pub returns-then-is_some-clause-most : goal.returns-then-is_some-clause-most
returns-then-is_some-clause-most g c =
    rw (
      ← take-map noise_key_shown (c.args.place + 1) c.args.keys.now,
      noise-known (after c.args.source.now) c.args.nodes.now.items (map noise_key_shown c.args.keys.now)
          c.args.place (noise_key_shown c.index-keys-place.result)
          (key-within c.args.keys.now c.args.place c.requires.within)
          (key-read c.args.keys.now c.args.place c.index-keys-place.result c.requires.within c.index-keys-place.is)
          (rw (← take-map noise_key_shown c.args.place c.args.keys.now) at c.requires.before)
          (some-tested _ c.noise_node.result _ c.is_some.result true (rw c.deref.ensures.value at c.noise_node.ensures)
          c.is_some.ensures c.if-is_some.true),
      take-map noise_key_shown c.args.place c.args.keys.now,
    ) (omega arith)

pub noise_of-node-requires-clause-there : goal.noise_of-node-requires-clause-there
noise_of-node-requires-clause-there g c =
    All-read (HoldsNoise (after c.args.source.now)) (map noise_key_shown c.args.keys.now) c.args.place
    (noise_key_shown c.index-keys-place.result) c.requires.there
    (key-within c.args.keys.now c.args.place c.requires.within)
    (key-read c.args.keys.now c.args.place c.index-keys-place.result c.requires.within c.index-keys-place.is)

pub returns-in_err-push-clause-most : goal.returns-in_err-push-clause-most
returns-in_err-push-clause-most g c =
    rw (
      ← take-map noise_key_shown (c.args.place + 1) c.args.keys.now,
      noise-steps_more (after c.args.source.now) (noises_shown c.args.kept.now) (map noise_key_shown
          c.args.keys.now) c.args.place (noise_key_shown c.index-keys-place.result)
          (key-within c.args.keys.now c.args.place c.requires.within)
          (key-read c.args.keys.now c.args.place c.index-keys-place.result c.requires.within c.index-keys-place.is)
          (noise-unknown (after c.args.source.now) c.args.nodes.now.items (map noise_key_shown c.args.keys.now)
          c.args.place
          (noise_key_shown c.index-keys-place.result) (rw (← take-map noise_key_shown c.args.place c.args.keys.now)
          at c.requires.before)
          (some-tested _ c.noise_node.result _ c.is_some.result false (rw c.deref.ensures.value at
          c.noise_node.ensures)
          c.is_some.ensures c.if-is_some.false)),
      take-map noise_key_shown c.args.place c.args.keys.now,
    )
    (omega (arith, c.noise_of-node.ensures.most))

pub returns-clause-most : goal.returns-clause-most
returns-clause-most g c =
    rw (
      ← take-map noise_key_shown (c.args.place + 1) c.args.keys.now,
      noise-steps_more (after c.args.source.now) (noises_shown c.args.kept.now) (map noise_key_shown
          c.args.keys.now) c.args.place (noise_key_shown c.index-keys-place.result)
          (key-within c.args.keys.now c.args.place c.requires.within)
          (key-read c.args.keys.now c.args.place c.index-keys-place.result c.requires.within c.index-keys-place.is)
          (noise-unknown (after c.args.source.now) c.args.nodes.now.items (map noise_key_shown c.args.keys.now)
          c.args.place
          (noise_key_shown c.index-keys-place.result) (rw (← take-map noise_key_shown c.args.place c.args.keys.now)
          at c.requires.before)
          (some-tested _ c.noise_node.result _ c.is_some.result false (rw c.deref.ensures.value at
          c.noise_node.ensures)
          c.is_some.ensures c.if-is_some.false)),
      take-map noise_key_shown c.args.place c.args.keys.now,
    )
    (omega (arith, c.noise_of-node.ensures.most))

pub returns-clause-value : goal.returns-clause-value
returns-clause-value g c =
    rw (c.in_ok-push.ensures.items, ← take-map noise_key_shown (c.args.place + 1) c.args.keys.now)
    (noise-added (after c.args.source.now) c.args.nodes.now.items c.noise_of-node.result (map noise_key_shown
    c.args.keys.now) c.args.place (noise_key_shown c.index-keys-place.result)
    (key-within c.args.keys.now c.args.place c.requires.within)
    (key-read c.args.keys.now c.args.place c.index-keys-place.result c.requires.within c.index-keys-place.is)
    (rw (← take-map noise_key_shown c.args.place c.args.keys.now) at c.requires.before)
    (some-tested _ c.noise_node.result _ c.is_some.result false (rw c.deref.ensures.value at c.noise_node.ensures)
    c.is_some.ensures c.if-is_some.false) c.noise_of-node.ensures.value)
