use Rattle.std.specs.Prelude.{All}
use Rattle.cds_sign.specs.Ranges.{IsAskedRow}
use Rattle.cds_graph.proofs.turn_lines.each_row.Given as goal

abbrev pub invariant-loop-word : goal.invariant-loop-word
invariant-loop-word l = All IsAskedRow l.rows.items
