use Rattle.std.proofs.Common.{◌≡◌, ◌+◌, ◌-◌, ◌≤◌}
use Rattle.cds_detect.specs.Settings.{settings_of}
use Rattle.cds_rules.specs.Fields.{fields_of}
use Rattle.cds_detect.specs.Windows.{Stands, peaks_with, cost_to}
use Rattle.cds_detect.specs.Raw.{raw_peaks_of}
use Rattle.cds_detect.proofs.detect.raw_peaks.Given as goal

abbrev pub invariant-loop-window : goal.invariant-loop-window
invariant-loop-window g l = record {
  stands : Stands l.trace (settings_of (fields_of l.method) l.manual) l.window;
  found : peaks_with l.trace (settings_of (fields_of l.method) l.manual) l.found.items l.window.at ≡ raw_peaks_of l.trace (settings_of (fields_of l.method) l.manual);
  least : l.fn.steps ≤ l.steps;
  counted : l.steps ≤ (l.fn.steps + 6) + cost_to l.trace l.method.bunch l.window.at;
}

abbrev pub decreases-loop-window : goal.decreases-loop-window
decreases-loop-window g l = l.count - l.window.at
