-- What the fields of a method and the events of a row say about finding peaks.
use Rattle.std.specs.Prelude.{List}
use Rattle.cds_base.specs.declared.event.Event.{Event}
use Rattle.cds_rules.specs.Fields.{Fields, row_events}
use Rattle.cds_detect.specs.Classes.{Settings}

-- by what peaks are found: the method's bunch, slopes and plateau, its events in their order, and then the row's
abbrev pub settings_of : Fields → List Event → Settings
settings_of fields manual = record {
  bunch = fields.bunch;
  own = record { at = 0; on = fields.slope_on; off = fields.slope_off };
  plateau = fields.plateau;
  events = row_events fields manual;
}
