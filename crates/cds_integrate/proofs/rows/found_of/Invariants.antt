use Rattle.std.proofs.Common.{◌≡◌, ℕ, ◌+◌, ◌*◌, ◌<◌, ◌≤◌, ◌++◌, drop, length, All}
use Rattle.std.specs.List.{flat_map}
use Rattle.cds_events.specs.Standing.{ClustersFrom}
use Rattle.cds_rules.specs.Fields.{fields_of, row_events}
use Rattle.cds_integrate.specs.Row.{found_in}
use Rattle.cds_integrate.specs.Standing.{IsFound, widths}
use Rattle.cds_integrate.proofs.rows.found_of.Given as goal

abbrev pub invariant-loop-cluster : goal.invariant-loop-cluster
invariant-loop-cluster g l = record {
  items : l.found.items ++ flat_map (found_in l.trace (fields_of l.method) (row_events (fields_of l.method) l.manual))
      (drop l.cluster-index l.clusters) ≡ flat_map (found_in l.trace (fields_of l.method)
      (row_events (fields_of l.method) l.manual)) l.clusters;
  kept : All (IsFound l.trace (fields_of l.method)) l.found.items;
  least : l.fn.steps ≤ l.steps;
  at : (at : ℕ) × ClustersFrom l.trace at (drop l.cluster-index l.clusters) × (widths l.found.items ≤ at) ×
      (at < length l.trace.samples) × (l.steps ≤ l.fn.steps + 11 * at);
}
