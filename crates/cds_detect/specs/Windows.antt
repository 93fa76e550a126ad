-- Where the scan of a trace stands, what it has found and what it has cost so far. For private functions alone.
use Rattle.std.specs.Prelude.{◌≡◌, ℕ, ◌+◌, ◌-◌, ◌*◌, ◌<◌, ◌≤◌, List, ◌++◌, length}
use Rattle.cds_base.specs.declared.peak.RawPeak.{RawPeak}
use Rattle.cds_trace.specs.Signal.{Signal}
use Rattle.cds_detect.specs.declared.scan.Window.{Window}
use Rattle.cds_detect.specs.Bunches.{IsBunchSum}
use Rattle.cds_detect.specs.Classes.{Settings, class_count, classes, bunch_sum}
use Rattle.cds_detect.specs.Spans.{class_at, later_spans}
use Rattle.cds_detect.specs.Raw.{end_sample, peaks_of}

-- it stands at a class, or behind the last one, with that class and, where there is one, the sums of the next two bunches
pub record Stands (signal : Signal) (settings : Settings) (window : Window) : Type 0 where
  pub within : window.at ≤ class_count (length signal.samples) settings.bunch
  pub class : window.class ≡ class_at (classes signal settings) window.at
  pub middle : window.at < class_count (length signal.samples) settings.bunch
      → window.middle ≡ bunch_sum signal settings.bunch (window.at + 1)
  pub far : window.at < class_count (length signal.samples) settings.bunch
      → window.far ≡ bunch_sum signal settings.bunch (window.at + 2)
  pub middle_range : IsBunchSum window.middle
  pub far_range : IsBunchSum window.far

-- the raw peaks that were found, and behind them those from class k on
abbrev pub peaks_with : Signal → Settings → List RawPeak → ℕ → List RawPeak
peaks_with signal settings found k =
    found ++ peaks_of signal settings.bunch (later_spans (classes signal settings) settings.plateau k)

-- the most steps that a search takes up to class k, but for those of its first two bunches
abbrev pub cost_to : Signal → ℕ → ℕ → ℕ
cost_to signal bunch k = 2 * k + 2 * end_sample signal bunch k

-- and those that it takes to the end
abbrev pub whole_cost : Signal → ℕ → ℕ
whole_cost signal bunch = 2 * class_count (length signal.samples) bunch + 2 * (length signal.samples - 1)
