use Rattle.std.proofs.Common.{All, length}
use Rattle.cds_fields.proofs.Judging.{Judged}
use Rattle.cds_rules.specs.Ranges.{CheckRange}
use Rattle.cds_rules.specs.Seen.{list_seen}
use Rattle.cds_rules.specs.Stated.{check_of}
use Rattle.cds_rules.proofs.read_check.checks.Given as goal

abbrev pub invariant-loop-place : goal.invariant-loop-place
invariant-loop-place l = record {
  judged : Judged (λ _. check_of l.components) (list_seen l.entries) l.place l.checks.items;
  each : All (CheckRange (length l.components)) l.checks.items;
}
