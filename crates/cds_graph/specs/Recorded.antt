-- What the inputs of a sequence stand for in the tables: its method as the text of the method states it, and the
-- signals that were recorded. Everything in the results is a function of this and of nothing else in the tables. This
-- project's own.
use Rattle.std.specs.Prelude.{ℕ, List, [], None, map, option_map, unwrap_or}
use Rattle.std.specs.Result.{result_unwrap_or}
use Rattle.cds_rules.specs.Fields.{Fields}
use Rattle.cds_rules.specs.Stated.{stated}
use Rattle.cds_rules.specs.declared.method.Weight.TheVariants.{Equal}
use Rattle.cds_sign.specs.declared.inputs.Inputs.{Inputs}
use Rattle.cds_sign.specs.declared.inputs.Listed.{Listed}
use Rattle.cds_sign.specs.declared.inputs.ListedRow.{ListedRow}
use Rattle.cds_sign.specs.declared.row.Row.{Row}
use Rattle.cds_trace.specs.Signal.{Signal}
use Rattle.cds_book.specs.Tables.{TablesState, trace_of, method_of}

-- a row of the sequence, and the signal that was recorded of it
pub record RecordedRow : Type 0 where
  pub row : Row
  pub signal : Signal

-- a standard row of a listed sequence, and the signal that was recorded of it
pub record RecordedStandard : Type 0 where
  pub row : ListedRow
  pub signal : Signal

-- a listed sequence: what its own method states, and its standard rows in their order
pub record RecordedListed : Type 0 where
  pub fields : Fields
  pub rows : List RecordedStandard

-- a sequence: what its method states, its rows, and the sequences that it lists, all in their order
pub record RecordedSequence : Type 0 where
  pub fields : Fields
  pub rows : List RecordedRow
  pub standards : List RecordedListed

-- what stands for a trace that isn't in the tables: a signal without samples, in which there is no peak
abbrev pub no_signal : Signal
no_signal = record { period = 1; samples = [] }

-- what stands for a method that isn't in the tables: one without components, events, checks and windows
unfoldable pub no_method : Fields
no_method = record {
  bunch = 1;
  slope_on = 1;
  slope_off = 1;
  plateau = 0;
  fuse = 0;
  min_area = 0;
  min_height = 0;
  weight = Equal;
  dead_time_us = None;
  noise_from_ms = None;
  noise_to_ms = None;
  rules = 1;
  components = [];
  events = [];
  checks = [];
}

-- the signal of a trace's version
unfoldable pub signal_in : TablesState → List ℕ → ℕ → Signal
signal_in tables trace version = unwrap_or (trace_of tables trace version) no_signal

-- what a text states as a method
unfoldable pub fields_stated : List ℕ → Fields
fields_stated text = result_unwrap_or (stated text) no_method

-- what a method's version states
unfoldable pub fields_in : TablesState → List ℕ → ℕ → Fields
fields_in tables method version = unwrap_or (option_map fields_stated (method_of tables method version)) no_method

-- what the method that inputs name states
abbrev pub fields_bound : TablesState → Inputs → Fields
fields_bound tables inputs = fields_in tables inputs.method inputs.version

-- a row with its signal
abbrev pub recorded_in : TablesState → Row → RecordedRow
recorded_in tables row = record { row = row; signal = signal_in tables row.trace row.version }

-- a standard row with its signal
abbrev pub standard_in : TablesState → ListedRow → RecordedStandard
standard_in tables row = record { row = row; signal = signal_in tables row.trace row.version }

-- a listed sequence with its method and its signals
abbrev pub listed_in : TablesState → Listed → RecordedListed
listed_in tables listed = record {
  fields = fields_in tables listed.method listed.version;
  rows = map (standard_in tables) listed.rows;
}

-- what inputs stand for in the tables
abbrev pub recorded_of : TablesState → Inputs → RecordedSequence
recorded_of tables inputs = record {
  fields = fields_in tables inputs.method inputs.version;
  rows = map (recorded_in tables) inputs.rows;
  standards = map (listed_in tables) inputs.standards;
}
