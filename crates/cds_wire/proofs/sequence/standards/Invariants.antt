use Rattle.std.specs.Prelude.{All}
use Rattle.std.specs.List.{IsDistinct}
use Rattle.std.specs.Str.{bytes_eq}
use Rattle.cds_base.specs.NameText.{IsName}
use Rattle.cds_fields.proofs.Judging.{Judged}
use Rattle.cds_wire.specs.Seen.{list_seen}
use Rattle.cds_wire.specs.Stated.{standard_of}
use Rattle.cds_wire.proofs.sequence.standards.Given as goal

abbrev pub invariant-loop-place : goal.invariant-loop-place
invariant-loop-place l = record {
  judged : Judged standard_of (list_seen l.entries) l.place l.standards.items;
  each : All IsName l.standards.items;
  different : IsDistinct bytes_eq l.standards.items;
}
