-- What a method states, without the proofs of its ranges.
use Rattle.std.specs.Prelude.{ℕ, List, ◌++◌, Option}
use Rattle.cds_base.specs.declared.event.Event.{Event}
use Rattle.cds_rules.specs.declared.component.Component.{Component}
use Rattle.cds_rules.specs.declared.check.Check.{Check}
use Rattle.cds_rules.specs.declared.method.Weight.{Weight}
use Rattle.cds_rules.specs.declared.method.Method.{Method}

-- the fields of a method
pub record Fields : Type 0 where
  pub bunch : ℕ
  pub slope_on : ℕ
  pub slope_off : ℕ
  pub plateau : ℕ
  pub fuse : ℕ
  pub min_area : ℕ
  pub min_height : ℕ
  pub weight : Weight
  pub dead_time_us : Option ℕ
  pub noise_from_ms : Option ℕ
  pub noise_to_ms : Option ℕ
  pub rules : ℕ
  pub components : List Component
  pub events : List Event
  pub checks : List Check

-- the fields of this method
abbrev pub fields_of : Method → Fields
fields_of m = record { bunch = m.bunch; slope_on = m.slope_on; slope_off = m.slope_off; plateau = m.plateau; fuse = m.fuse; min_area = m.min_area; min_height = m.min_height; weight = m.weight; dead_time_us = m.dead_time_us; noise_from_ms = m.noise_from_ms; noise_to_ms = m.noise_to_ms; rules = m.rules; components = m.components; events = m.events; checks = m.checks }

-- the events of a row: the method's in their order, and then the row's own
abbrev pub row_events : Fields → List Event → List Event
row_events fields manual = fields.events ++ manual
