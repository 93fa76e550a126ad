-- The wanted pairs of one component, and all of them in their order. For private functions alone.
use Rattle.std.specs.Prelude.{ℕ, ◌-◌, ◌<◌, ◌≤◌, List, length, slice_index_or}
use Rattle.std.specs.Int.{abs_diff}
use Rattle.cds_base.specs.declared.Window.{Window}
use Rattle.cds_names.specs.Naming.{Pair, IsBefore}

-- the time of a peak, in microseconds from the start of the trace, and the peak's place
pub record PeakTime : Type 0 where
  pub time : ℕ
  pub peak : ℕ

-- the peak lies in the window
abbrev pub IsInWindow : Window → PeakTime → Type 0
IsInWindow window peak = abs_diff window.time_us peak.time ≤ window.width_us

-- the peak comes before the window
abbrev pub IsBeforeWindow : Window → PeakTime → Type 0
IsBeforeWindow window peak = window.width_us < window.time_us - peak.time

-- the peak comes after the window
abbrev pub IsAfterWindow : Window → PeakTime → Type 0
IsAfterWindow window peak = window.width_us < peak.time - window.time_us

-- the pair of a component with this window and a peak of this time
abbrev pub pair_of : Window → ℕ → PeakTime → Pair
pair_of window component peak =
    record { distance = abs_diff window.time_us peak.time; component = component; peak = peak.peak }

-- no pair comes before itself or before one that stands ahead of it
abbrev pub IsInOrder : List Pair → Type 0
IsInOrder pairs = (i j : ℕ) (d : Pair) → i ≤ j → j < length pairs
    → IsBefore (slice_index_or pairs j d) (slice_index_or pairs i d) → ⊥
