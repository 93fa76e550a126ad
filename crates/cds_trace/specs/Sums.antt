-- The running sums that a trace keeps.
use Rattle.std.specs.Prelude.{◌≡◌, ℕ, ◌+◌, ◌≤◌, ℤ, pos, List, get_or, length, take}
use Rattle.cds_trace.specs.Signal.{total}

-- for each k up to the number of samples, the sum of the first k of them
pub record AreSums (samples : List ℤ) (sums : List ℤ) : Type 0 where
  pub whole : length sums ≡ length samples + 1
  pub each : (k : ℕ) → k ≤ length samples → get_or sums k (pos 0) ≡ total (take k samples)
