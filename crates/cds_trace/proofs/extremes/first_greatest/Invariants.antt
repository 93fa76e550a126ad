use Rattle.std.proofs.Common.{◌≡◌, ℕ, ◌+◌, ◌<◌, ◌≤◌, ◌≤ℤ◌, ◌<ℤ◌}
use Rattle.cds_trace.specs.Signal.{sample_at}
use Rattle.cds_trace.proofs.extremes.first_greatest.Given as goal

abbrev pub invariant-loop-i : goal.invariant-loop-i
invariant-loop-i g l = record {
  level : l.level ≡ sample_at l.trace l.sample;
  low : l.from ≤ l.sample;
  high : l.sample < l.i;
  before : (k : ℕ) → l.from ≤ k → k < l.sample → sample_at l.trace k <ℤ l.level;
  most : (k : ℕ) → l.from ≤ k → k < l.i → sample_at l.trace k ≤ℤ l.level;
  counted : l.steps + l.from ≡ l.fn.steps + l.i;
}
