use Rattle.std.proofs.Common.{◌≡◌, take}
use Rattle.cds_trace.specs.Signal.{total}
use Rattle.cds_trace.specs.Sums.{AreSums}
use Rattle.cds_trace.proofs.trace.running_sums.Given as goal

abbrev pub invariant-loop-sample : goal.invariant-loop-sample
invariant-loop-sample l = record {
  sum : l.sum ≡ total (take l.sample-index l.samples);
  sums : AreSums (take l.sample-index l.samples) l.sums.items;
}
