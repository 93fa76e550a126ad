use Rattle.std.proofs.Common.{◌≡◌, ◌+◌, ◌-◌, ◌*◌, ◌≤◌}
use Rattle.cds_detect.specs.Classes.{classes}
use Rattle.cds_detect.specs.Settings.{settings_of}
use Rattle.cds_rules.specs.Fields.{fields_of}
use Rattle.cds_detect.specs.Spans.{next_up}
use Rattle.cds_detect.specs.Windows.{Stands}
use Rattle.cds_detect.proofs.scan.find_up.Given as goal

abbrev pub invariant-loop-window : goal.invariant-loop-window
invariant-loop-window g l = record {
  stands : Stands l.trace (settings_of (fields_of l.method) l.manual) l.window;
  goes_on : next_up (classes l.trace (settings_of (fields_of l.method) l.manual)) l.window.at ≡ next_up (classes l.trace (settings_of (fields_of l.method) l.manual)) l.fn.window.at;
  least : l.fn.steps ≤ l.steps;
  counted : l.steps + 2 * l.fn.window.at ≤ l.fn.steps + 2 * l.window.at;
}

abbrev pub decreases-loop-window : goal.decreases-loop-window
decreases-loop-window g l = l.count - l.window.at
