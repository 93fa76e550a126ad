use Rattle.std.proofs.Common.{◌≡◌, ◌∙◌, sym, ap, option_map}
use Rattle.std.proofs.lemmas.List.{map-append}
use Rattle.cds_book.proofs.ListLaws.{filter_map_some, filter_map_none}
use Rattle.cds_graph.specs.Building.{after}
use Rattle.cds_graph.specs.HeldGraph.{noise_key_shown}
use Rattle.cds_graph.specs.Keys.{noise_key_of}
use Rattle.cds_graph.proofs.noises.noise_keys.Goals.{in-Some+in_ok-push, in_default}
use Rattle.cds_graph.proofs.noises.noise_keys.Goals as goal

pub loop-place-preserved : goal.loop-place-preserved
loop-place-preserved c = elim c.match-noise_key.branch [
  | in-Some+in_ok-push w ↦ rw (w.keys-is, w.in_ok-push.ensures.items, map-append)
      (filter_map_some (noise_key_of (after c.args.source.now)) c.args.all.now c.loop-place.place
      c.index-all-place.result (noise_key_shown w.in-Some.key) _ c.loop-place-test.true c.index-all-place.is
      (sym (ap (option_map noise_key_shown) w.in-Some.is) ∙ c.noise_key.ensures) c.loop-place.invariant)
  | in_default w ↦ rw w.keys-is
      (filter_map_none (noise_key_of (after c.args.source.now)) c.args.all.now c.loop-place.place
      c.index-all-place.result _ c.loop-place-test.true c.index-all-place.is
      (sym (ap (option_map noise_key_shown) w.in_default.is) ∙ c.noise_key.ensures) c.loop-place.invariant)
]
