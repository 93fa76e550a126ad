use Rattle.std.specs.List.{AllPass}
use Rattle.cds_base.specs.EventRange.{is_event}
use Rattle.cds_fields.specs.Event.{event_of}
use Rattle.cds_fields.specs.Seen.{list_seen}
use Rattle.cds_fields.proofs.Judging.{Judged}
use Rattle.cds_fields.proofs.event.events.Given as goal

abbrev pub invariant-loop-place : goal.invariant-loop-place
invariant-loop-place g l = record {
  judged : Judged (λ _. event_of) (list_seen g.V.TextValue.shown g.E.Refusal.told l.entries) l.place l.events.items;
  each : AllPass is_event l.events.items;
}
