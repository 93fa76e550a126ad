use Rattle.std.proofs.Common.{◌≡◌, ℕ, ◌+◌, ◌-◌, ◌<◌, ◌≤◌, true, false}
use Rattle.cds_base.proofs.halving.greatest_reached.Given as goal

abbrev pub invariant-loop-above : goal.invariant-loop-above
invariant-loop-above g l = record {
  ordered : l.low < l.above;
  top : l.above ≤ l.most + 1;
  reached : g.R.Reaching.reached l.subject l.low ≡ true;
  missed : (k : ℕ) → l.above ≤ k → k ≤ l.most → g.R.Reaching.reached l.subject k ≡ false;
}

abbrev pub decreases-loop-above : goal.decreases-loop-above
decreases-loop-above g l = l.above - l.low
