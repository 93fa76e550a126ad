use Rattle.std.proofs.Common.{◌+◌, ◌≤◌, take}
use Rattle.cds_graph.specs.Building.{after, new_row_steps, RowsOf}
use Rattle.cds_graph.specs.HeldGraph.{rows_shown}
use Rattle.cds_graph.specs.Keys.{once, same_row_key}
use Rattle.cds_graph.proofs.rows.kept_rows.Given as goal

abbrev pub invariant-loop-place : goal.invariant-loop-place
invariant-loop-place g l = record {
  shown : RowsOf (after l.source) (take l.place l.keys) (rows_shown l.nodes.items);
  least : l.initial.steps ≤ l.steps;
  most : l.steps ≤ l.initial.steps
      + new_row_steps (after l.source) (rows_shown l.kept) (once same_row_key (take l.place l.keys));
}
