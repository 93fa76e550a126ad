use Rattle.std.proofs.Common.{rules, ◌≤◌, ◌<◌, length}
use Rattle.cds_suit.specs.declared.square.TheConstants.{MOST_VALUES}
use Rattle.cds_graph.proofs.CheckLaws.{taken-full, taken-more}
use Rattle.cds_graph.proofs.deviations.first_taken.Goals as goal

pub returns-then-len-eq-MOST_VALUES-clause-value : goal.returns-then-len-eq-MOST_VALUES-clause-value
returns-then-len-eq-MOST_VALUES-clause-value c =
    let full : MOST_VALUES ≤ length c.loop-row.taken.items = search rules in
    taken-full c.args.check.now MOST_VALUES c.args.rows.now c.loop-row.row-index c.loop-row.taken.items full
    c.loop-row.invariant.value

pub loop-row-preserved : goal.loop-row-preserved
loop-row-preserved c = record {
  value =
      let room : length c.loop-row.taken.items < MOST_VALUES = search rules in
      taken-more c.args.check.now MOST_VALUES c.args.rows.now c.loop-row.row-index c.row-item.result _ _
      c.loop-row-test.true c.row-item.is room c.in_ok-add_taken.ensures.value c.loop-row.invariant.value;
  few = search rules;
  below = search rules;
}
