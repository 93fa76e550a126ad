use Rattle.std.proofs.Common.{◌≡◌, take}
use Rattle.cds_detect.specs.Slopes.{in_force}
use Rattle.cds_detect.proofs.slopes.in_force.Given as goal

abbrev pub invariant-loop-event : goal.invariant-loop-event
invariant-loop-event l = l.latest ≡ in_force (take l.event-index l.events) l.time
