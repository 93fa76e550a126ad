use Rattle.std.proofs.Common.{◌≡◌, None, take, fold}
use Rattle.cds_events.specs.Segments.{best_with}
use Rattle.cds_events.proofs.segments.best_within.Given as goal

abbrev pub invariant-loop-segment : goal.invariant-loop-segment
invariant-loop-segment l = l.best ≡ fold (best_with l.from l.to) None (take l.segment-index l.segments)
