use Rattle.std.proofs.Common.{◌≡◌, take}
use Rattle.cds_events.specs.Placed.{placed_peaks}
use Rattle.cds_events.proofs.placed.placed_peaks.Given as goal

abbrev pub invariant-loop-peak : goal.invariant-loop-peak
invariant-loop-peak l = l.peaks.items ≡ placed_peaks l.pieces (take l.peak-index l.raw)
