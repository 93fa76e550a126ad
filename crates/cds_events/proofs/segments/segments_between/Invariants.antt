use Rattle.std.proofs.Common.{◌+◌, ◌-◌, ◌*◌, ◌≤◌}
use Rattle.std.specs.Prelude.{All}
use Rattle.cds_events.specs.Segments.{Covers, IsMark}
use Rattle.cds_events.proofs.segments.segments_between.Given as goal

abbrev pub invariant-loop-from : goal.invariant-loop-from
invariant-loop-from g l = record {
  within : l.from ≤ l.end;
  covers : Covers l.trace l.start l.segments.items l.from;
  marks : All (IsMark l.segments.items) l.drops;
  least : l.fn.steps ≤ l.steps;
  most : l.steps + 2 * l.start ≤ l.fn.steps + 2 * l.from;
}

abbrev pub decreases-loop-from : goal.decreases-loop-from
decreases-loop-from g l = l.end - l.from
