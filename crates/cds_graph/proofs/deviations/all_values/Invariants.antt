use Rattle.std.proofs.Common.{◌≡◌, ◌≤◌, ◌<◌, drop}
use Rattle.std.specs.Prelude.{All}
use Rattle.std.specs.Vec.{vec_len}
use Rattle.cds_base.specs.declared.peak.TheConstants.{AREA_LIMIT}
use Rattle.cds_graph.specs.Checks.{all_values}
use Rattle.cds_graph.proofs.CheckLaws.{behind}
use Rattle.cds_graph.proofs.deviations.all_values.Given as goal

abbrev pub invariant-loop-one : goal.invariant-loop-one
invariant-loop-one l = record {
  value : behind l.values.items (all_values (drop l.one-index l.taken)) ≡ all_values l.taken;
  few : vec_len l.values ≤ l.one-index;
  below : All (λ x. x < AREA_LIMIT) l.values.items;
}
