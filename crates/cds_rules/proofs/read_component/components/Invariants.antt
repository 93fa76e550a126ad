use Rattle.std.proofs.Common.{◌≢◌, All}
use Rattle.std.specs.List.{AllPairs}
use Rattle.cds_fields.proofs.Judging.{Judged}
use Rattle.cds_rules.specs.Ranges.{ComponentTimes}
use Rattle.cds_rules.specs.Seen.{list_seen}
use Rattle.cds_rules.specs.Stated.{component_of}
use Rattle.cds_rules.proofs.read_component.components.Given as goal

abbrev pub invariant-loop-place : goal.invariant-loop-place
invariant-loop-place l = record {
  judged : Judged component_of (list_seen l.entries) l.place l.components.items;
  times : All ComponentTimes l.components.items;
  different : AllPairs (λ one later. one.name ≢ later.name) l.components.items;
}
