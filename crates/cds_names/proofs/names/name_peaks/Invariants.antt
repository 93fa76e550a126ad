use Rattle.std.proofs.Common.{◌≡◌, length}
use Rattle.cds_names.proofs.GivingSteps.{Given}
use Rattle.cds_names.proofs.names.name_peaks.Given as goal

abbrev pub invariant-loop-pair : goal.invariant-loop-pair
invariant-loop-pair l = record {
  one_each : length l.peaks.items ≡ length l.windows;
  one_mark_each : length l.taken.items ≡ length l.times;
  given : Given l.pair-items l.pair-index l.peaks.items l.taken.items;
}
