use Rattle.std.proofs.Common.{◌≡◌, drop}
use Rattle.cds_integrate.specs.Measures.{riders, reach_over}
use Rattle.cds_integrate.specs.Standing.{from_reach}
use Rattle.cds_integrate.proofs.measures.area_end.Given as goal

abbrev pub invariant-loop-next : goal.invariant-loop-next
invariant-loop-next l = from_reach l.end (drop l.next-index l.later) ≡ reach_over l.fn.shape (riders l.later)
