use Rattle.std.proofs.Common.{◌≡◌, ◌++◌, drop, All}
use Rattle.std.specs.Option.{IfSome}
use Rattle.cds_rules.specs.Fields.{fields_of}
use Rattle.cds_integrate.specs.Peaks.{with_before, kept_of, accepted}
use Rattle.cds_integrate.specs.Standing.{IsMeasured, IsFound}
use Rattle.cds_integrate.proofs.found.add_accepted.Given as goal

abbrev pub invariant-loop-part : goal.invariant-loop-part
invariant-loop-part l = record {
  items : l.found.items ++ kept_of l.trace (fields_of l.method)
      (with_before l.before (drop l.part-index l.parts)) ≡ l.fn.found.items ++ accepted l.trace
      (fields_of l.method) l.parts;
  before : IfSome l.before (IsMeasured l.trace);
  kept : All (IsFound l.trace (fields_of l.method)) l.found.items;
}
