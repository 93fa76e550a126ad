use Rattle.std.proofs.Common.{◌≡◌, ◌+◌, ◌-◌, ◌*◌, ◌<◌, ◌≤◌, length}
use Rattle.cds_base.specs.Search.{least}
use Rattle.cds_detect.specs.Classes.{classes}
use Rattle.cds_detect.specs.Settings.{settings_of}
use Rattle.cds_rules.specs.Fields.{fields_of}
use Rattle.cds_detect.specs.Spans.{ends_climb, climb}
use Rattle.cds_detect.specs.Windows.{Stands}
use Rattle.cds_detect.proofs.ClimbLaws.{flat_run}
use Rattle.cds_detect.proofs.scan.climb.Given as goal

abbrev pub invariant-loop-window : goal.invariant-loop-window
invariant-loop-window g l = record {
  stands : Stands l.trace (settings_of (fields_of l.method) l.manual) l.window;
  after : l.fn.start.at < l.window.at;
  flats : l.flats ≡ flat_run (classes l.trace (settings_of (fields_of l.method) l.manual)) l.fn.start.at l.window.at;
  goes_on : least (ends_climb (classes l.trace (settings_of (fields_of l.method) l.manual)) l.method.plateau l.fn.start.at) l.window.at (length (classes l.trace (settings_of (fields_of l.method) l.manual))) ≡ climb (classes l.trace (settings_of (fields_of l.method) l.manual)) l.method.plateau l.fn.start.at;
  least : l.fn.steps ≤ l.steps;
  counted : l.steps + 2 * l.fn.start.at ≤ l.fn.steps + 2 * l.window.at;
}

abbrev pub decreases-loop-window : goal.decreases-loop-window
decreases-loop-window g l = l.count - l.window.at
