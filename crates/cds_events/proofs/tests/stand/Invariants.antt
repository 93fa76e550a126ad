use Rattle.std.proofs.Common.{drop}
use Rattle.cds_trace.specs.Standing.{RawFrom}
use Rattle.cds_events.proofs.tests.stand.Given as goal

abbrev pub invariant-loop-peak : goal.invariant-loop-peak
invariant-loop-peak g l = RawFrom l.trace l.at (drop l.peak-index l.raw) → RawFrom l.trace 0 l.raw
