use Rattle.std.proofs.Common.{◌≡◌, ◌+◌, ◌-◌, ◌≤◌, ◌<ℤ◌}
use Rattle.cds_figures.specs.Crossings.{last_passing, is_down_to, scaled_height}
use Rattle.cds_figures.proofs.widths.left_crossing.Given as goal

abbrev pub invariant-loop-i : goal.invariant-loop-i
invariant-loop-i g l = record {
  low : l.start ≤ l.i;
  high : l.i ≤ l.apex;
  inner : l.inner ≡ scaled_height l.trace l.line l.i;
  above : l.level.at <ℤ l.inner;
  search : last_passing (is_down_to l.trace l.line l.level.at) l.start (l.i - l.start) ≡ last_passing (is_down_to l.trace l.line l.level.at) l.start (l.apex - l.start);
  least : l.fn.steps ≤ l.steps;
  counted : l.steps + l.i ≤ l.fn.steps + l.apex;
}
