use Rattle.std.proofs.Common.{◌≡◌, ℕ, ◌+◌, ◌<◌, ◌≤◌, ◌≤ℤ◌, ◌<ℤ◌}
use Rattle.cds_trace.specs.Signal.{sample_at}
use Rattle.cds_events.proofs.valleys.first_least.Given as goal

abbrev pub invariant-loop-i : goal.invariant-loop-i
invariant-loop-i g l = record {
  depth : l.depth ≡ sample_at l.trace l.valley;
  low : l.from ≤ l.valley;
  high : l.valley < l.i;
  before : (k : ℕ) → l.from ≤ k → k < l.valley → l.depth <ℤ sample_at l.trace k;
  most : (k : ℕ) → l.from ≤ k → k < l.i → l.depth ≤ℤ sample_at l.trace k;
  counted : l.steps + l.from ≡ l.fn.steps + l.i;
}
