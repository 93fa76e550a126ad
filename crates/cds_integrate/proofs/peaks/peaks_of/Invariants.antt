use Rattle.std.proofs.Common.{◌+◌, ◌*◌, ◌≤◌, take, All}
use Rattle.cds_rules.specs.Fields.{fields_of}
use Rattle.cds_integrate.specs.Peaks.{ArePeaks}
use Rattle.cds_integrate.specs.Row.{IsSound}
use Rattle.cds_integrate.specs.Standing.{widths}
use Rattle.cds_integrate.proofs.peaks.peaks_of.Given as goal

abbrev pub invariant-loop-place : goal.invariant-loop-place
invariant-loop-place g l = record {
  peaks : ArePeaks l.trace (fields_of l.method) l.names 1 (take l.place l.found) l.peaks.items;
  sound : All IsSound l.peaks.items;
  least : l.fn.steps ≤ l.steps;
  most : l.steps ≤ l.fn.steps + 5 * widths (take l.place l.found);
}
