use Rattle.std.specs.Prelude.{All}
use Rattle.cds_fields.proofs.Judging.{Judged}
use Rattle.cds_sign.specs.Ranges.{IsAskedRow}
use Rattle.cds_wire.specs.Seen.{list_seen}
use Rattle.cds_wire.specs.Stated.{row_of}
use Rattle.cds_wire.proofs.row.rows.Given as goal

abbrev pub invariant-loop-place : goal.invariant-loop-place
invariant-loop-place l = record {
  judged : Judged (λ _. row_of) (list_seen l.entries) l.place l.rows.items;
  each : All IsAskedRow l.rows.items;
}
