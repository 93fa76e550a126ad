use Rattle.std.proofs.Common.{◌≡◌, ◌+◌, ◌*◌, ◌≤◌, ◌++◌, length, map}
use Rattle.cds_events.specs.Runs.{fused, runs_of}
use Rattle.cds_events.specs.Arrangement.{cluster_of}
use Rattle.cds_events.specs.Ordered.{RunsFrom, reached}
use Rattle.cds_events.proofs.arrangement.clusters_of_runs.Given as goal

abbrev pub invariant-loop-rest : goal.invariant-loop-rest
invariant-loop-rest g l =
    let joins = fused l.gap l.pieces in
    let made = cluster_of l.trace l.drops in
    record {
      value : l.clusters.items ++ map made (runs_of joins l.rest) ≡ map made (runs_of joins l.peaks);
      runs : RunsFrom l.trace (reached l.clusters.items) (runs_of joins l.rest);
      within : reached l.clusters.items ≤ length l.trace.samples;
      least : l.fn.steps ≤ l.steps;
      most : l.steps ≤ l.fn.steps + 3 * reached l.clusters.items;
    }

abbrev pub decreases-loop-rest : goal.decreases-loop-rest
decreases-loop-rest g l = length l.rest
