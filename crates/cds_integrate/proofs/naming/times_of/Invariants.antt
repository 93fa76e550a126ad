use Rattle.std.proofs.Common.{◌≡◌, ◌+◌, ◌*◌, ◌≤◌, map, take, vec_len}
use Rattle.cds_rules.specs.Fields.{fields_of}
use Rattle.cds_integrate.specs.Peaks.{time_of}
use Rattle.cds_integrate.proofs.naming.times_of.Given as goal

abbrev pub invariant-loop-one : goal.invariant-loop-one
invariant-loop-one g l = record {
  times : l.times.items ≡ map (time_of l.trace (fields_of l.method)) (take l.one-index l.found);
  len : vec_len l.times ≡ l.one-index;
  least : l.fn.steps ≤ l.steps;
  most : l.steps ≤ l.fn.steps + 3 * l.one-index;
}
