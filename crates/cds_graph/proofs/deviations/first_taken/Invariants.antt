use Rattle.std.proofs.Common.{◌≡◌, ◌≤◌, ◌<◌, map, take}
use Rattle.std.specs.Prelude.{All, IfOk}
use Rattle.std.specs.Vec.{vec_len}
use Rattle.cds_base.specs.declared.peak.TheConstants.{AREA_LIMIT}
use Rattle.cds_suit.specs.declared.square.TheConstants.{MOST_VALUES}
use Rattle.cds_graph.specs.Checks.{taken_in, replicates_of}
use Rattle.cds_graph.specs.Held.{row_shown}
use Rattle.cds_graph.proofs.deviations.first_taken.Given as goal

abbrev pub invariant-loop-row : goal.invariant-loop-row
invariant-loop-row l = record {
  value : l.taken.items
      ≡ map (taken_in l.check) (take MOST_VALUES (replicates_of (map row_shown (take l.row-index l.rows))));
  few : vec_len l.taken ≤ MOST_VALUES;
  below : All (λ one. IfOk one (λ x. x < AREA_LIMIT)) l.taken.items;
}
