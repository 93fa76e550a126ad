use Rattle.std.proofs.Common.{◌≡◌, ◌+◌, ◌≤◌}
use Rattle.cds_figures.specs.Extents.{extent_of}
use Rattle.cds_figures.specs.Noise.{samples_in}
use Rattle.cds_figures.proofs.blank.extent_in.Given as goal

abbrev pub invariant-loop-i : goal.invariant-loop-i
invariant-loop-i g l = record {
  extent : l.extent ≡ extent_of (samples_in l.trace l.from_ms l.to_ms l.i);
  least : l.fn.steps ≤ l.steps;
  counted : l.steps ≤ l.fn.steps + l.i;
}
