use Rattle.std.proofs.Common.{◌≡◌, ◌+◌, ◌-◌, ◌≤◌, ◌<ℤ◌}
use Rattle.cds_figures.specs.Crossings.{first_passing, is_down_to, scaled_height}
use Rattle.cds_figures.proofs.widths.right_crossing.Given as goal

abbrev pub invariant-loop-i : goal.invariant-loop-i
invariant-loop-i g l = record {
  inner : l.inner ≡ scaled_height l.trace l.line (l.i - 1);
  above : l.level.at <ℤ l.inner;
  search : first_passing (is_down_to l.trace l.line l.level.at) l.i (l.end + 1 - l.i) ≡ first_passing (is_down_to l.trace l.line l.level.at) (l.apex + 1) (l.end - l.apex);
  least : l.fn.steps ≤ l.steps;
  counted : l.steps + (l.apex + 1) ≤ l.fn.steps + l.i;
}
