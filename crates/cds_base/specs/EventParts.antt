-- An event by the number of its kind and its own numbers: the one numbering of kinds, for records and for comparing.
-- This project's own.
use Rattle.std.specs.Prelude.{ℕ}
use Rattle.cds_base.specs.declared.event.Event.{Event}
use Rattle.cds_base.specs.declared.event.Event.TheVariants.{Inhibit, Valley, Drop, Baseline, Slope, Skim}

-- the number of a kind, and up to three numbers
pub record EventParts : Type 0 where
  pub kind : ℕ
  pub first : ℕ
  pub second : ℕ
  pub third : ℕ

-- the kind of an event and its numbers in their order, 0 for one that it doesn't have
abbrev pub event_parts : Event → EventParts
event_parts (Inhibit from to) = record { kind = 1; first = from; second = to; third = 0 }
event_parts (Valley from to) = record { kind = 2; first = from; second = to; third = 0 }
event_parts (Drop at) = record { kind = 3; first = at; second = 0; third = 0 }
event_parts (Baseline from to) = record { kind = 4; first = from; second = to; third = 0 }
event_parts (Slope at on off) = record { kind = 5; first = at; second = on; third = off }
event_parts (Skim from to) = record { kind = 6; first = from; second = to; third = 0 }
