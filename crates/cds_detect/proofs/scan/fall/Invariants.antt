use Rattle.std.proofs.Common.{◌≡◌, ◌+◌, ◌-◌, ◌*◌, ◌≤◌, length}
use Rattle.cds_base.specs.Search.{least}
use Rattle.cds_detect.specs.Classes.{classes}
use Rattle.cds_detect.specs.Settings.{settings_of}
use Rattle.cds_rules.specs.Fields.{fields_of}
use Rattle.cds_detect.specs.Spans.{ends_fall, fall}
use Rattle.cds_detect.specs.Windows.{Stands}
use Rattle.cds_detect.proofs.scan.fall.Given as goal

abbrev pub invariant-loop-window : goal.invariant-loop-window
invariant-loop-window g l = record {
  stands : Stands l.trace (settings_of (fields_of l.method) l.manual) l.window;
  goes_on : least (ends_fall (classes l.trace (settings_of (fields_of l.method) l.manual))) l.window.at (length (classes l.trace (settings_of (fields_of l.method) l.manual))) ≡ fall (classes l.trace (settings_of (fields_of l.method) l.manual)) l.fn.start.at;
  least : l.fn.steps ≤ l.steps;
  counted : l.steps + 2 * l.fn.start.at ≤ l.fn.steps + 2 * l.window.at;
}

abbrev pub decreases-loop-window : goal.decreases-loop-window
decreases-loop-window g l = l.count - l.window.at
