use Rattle.std.proofs.Common.{◌≡◌, arith, rules}
use Rattle.cds_desk.proofs.ServeLaws.{visited_one, visited_wanting}
use Rattle.cds_desk.proofs.ServingLaws.{finds_then}
use Rattle.cds_desk.proofs.desk.Desk.serve_all.Goals as goal

pub returns-in-NoMemory-clause-visited : goal.returns-in-NoMemory-clause-visited
returns-in-NoMemory-clause-visited g c =
    visited_wanting c.loop-count.count c.args.number _ _ _ c.loop-count.invariant.so c.loop-count-test.true c.in-NoMemory.ensures.takes

pub loop-count-preserved : goal.loop-count-preserved
loop-count-preserved g c =
    let i = c.loop-count.invariant in
    record {
      so = visited_one _ _ _ _ i.so c.in-Closed.ensures.takes;
      finds = λ name. finds_then _ _ _ _ _ _ i.keeper_counts c.serve_next.ensures.counts.0 (i.finds name) (c.serve_next.ensures.finds name);
      opened = c.serve_next.ensures.stays_open;
      keeper_counts = omega (arith, i.keeper_counts, c.serve_next.ensures.counts.0);
      door_counts = omega (arith, i.door_counts, c.serve_next.ensures.counts.1);
    }
