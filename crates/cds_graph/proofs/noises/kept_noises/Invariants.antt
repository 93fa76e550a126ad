use Rattle.std.proofs.Common.{◌+◌, ◌≤◌, map, take}
use Rattle.cds_graph.specs.Building.{after, new_noise_steps, NoisesOf}
use Rattle.cds_graph.specs.HeldGraph.{noise_key_shown, noises_shown}
use Rattle.cds_graph.specs.Keys.{once, same_noise_key}
use Rattle.cds_graph.proofs.noises.kept_noises.Given as goal

abbrev pub invariant-loop-place : goal.invariant-loop-place
invariant-loop-place g l = record {
  shown : NoisesOf (after l.source) (map noise_key_shown (take l.place l.keys)) (noises_shown l.nodes.items);
  least : l.initial.steps ≤ l.steps;
  most : l.steps ≤ l.initial.steps + new_noise_steps (after l.source) (noises_shown l.kept)
      (once same_noise_key (map noise_key_shown (take l.place l.keys)));
}
