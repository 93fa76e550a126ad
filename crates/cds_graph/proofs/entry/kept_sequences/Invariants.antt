use Rattle.std.proofs.Common.{◌≡◌, map, take}
use Rattle.cds_graph.specs.Building.{after}
use Rattle.cds_graph.specs.HeldGraph.{sequences_shown}
use Rattle.cds_graph.specs.Kept.{sequence_under}
use Rattle.cds_graph.proofs.entry.kept_sequences.Given as goal

abbrev pub invariant-loop-place : goal.invariant-loop-place
invariant-loop-place l =
    sequences_shown l.entries.items ≡ map (sequence_under (after l.source)) (take l.place (after l.source).sequences)
