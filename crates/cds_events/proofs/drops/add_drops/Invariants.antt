use Rattle.std.proofs.Common.{◌≡◌, ◌++◌, take}
use Rattle.cds_events.specs.Drops.{drop_samples}
use Rattle.cds_events.proofs.drops.add_drops.Given as goal

abbrev pub invariant-loop-event : goal.invariant-loop-event
invariant-loop-event l = l.drops.items ≡ l.fn.drops.items ++ drop_samples l.period (take l.event-index l.events)
