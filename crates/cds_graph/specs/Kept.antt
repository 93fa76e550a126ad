-- What is kept of rows, noises and methods, each under its key, so that none is found twice; and what is kept of a
-- sequence. This project's own.
use Rattle.std.specs.Prelude.{ℕ, List, Option}
use Rattle.cds_figures.specs.Noise.{noise_of}
use Rattle.cds_integrate.specs.Seen.{RowSeen}
use Rattle.cds_rules.specs.Fields.{Fields}
use Rattle.cds_sign.specs.declared.inputs.Inputs.{Inputs}
use Rattle.cds_book.specs.Inputs.{bindings_of, inputs_in}
use Rattle.cds_book.specs.Tables.{TablesState, NamedSequence}
use Rattle.cds_graph.specs.declared.key.RowKey.{RowKey}
use Rattle.cds_graph.specs.declared.method.MethodKey.{MethodKey}
use Rattle.cds_graph.specs.Found.{FoundSequence, found_of}
use Rattle.cds_graph.specs.Keys.{NoiseKey}
use Rattle.cds_graph.specs.Recorded.{signal_in, fields_in, recorded_of}
use Rattle.cds_graph.specs.Results.{Results, eval}
use Rattle.cds_graph.specs.Rows.{found_in}

-- a kept row: its key, the period of its trace in microseconds, and what is found in it
pub record KeptRow : Type 0 where
  pub key : RowKey
  pub period : ℕ
  pub found : RowSeen

-- a kept noise: its key, and the noise, if there is one
pub record KeptNoise : Type 0 where
  pub key : NoiseKey
  pub noise : Option ℕ

-- a kept method: its key, and what its text states
pub record KeptMethod : Type 0 where
  pub key : MethodKey
  pub fields : Fields

-- a kept sequence: its name, its inputs, its method and its rows as they are found, and its results
pub record KeptSequence : Type 0 where
  pub name : List ℕ
  pub inputs : Inputs
  pub found : FoundSequence
  pub results : Results

-- the row that a key names in the tables: that of its trace's version, under its method's version and its manual events
unfoldable pub row_under : TablesState → RowKey → KeptRow
row_under tables key = record {
  key = key;
  period = (signal_in tables key.trace key.version).period;
  found =
      found_in (signal_in tables key.trace key.version) (fields_in tables key.method key.method_version) key.events;
}

-- the noise that a key names in the tables: that of its trace's version in its window
unfoldable pub noise_under : TablesState → NoiseKey → KeptNoise
noise_under tables key = record {
  key = key;
  noise = noise_of (signal_in tables key.trace key.version) key.window.from_ms key.window.to_ms;
}

-- the method that a key names in the tables
unfoldable pub method_under : TablesState → MethodKey → KeptMethod
method_under tables key = record { key = key; fields = fields_in tables key.name key.version }

-- a sequence of these inputs with its results in the tables
abbrev pub sequence_with : TablesState → List ℕ → Inputs → KeptSequence
sequence_with tables name inputs = record {
  name = name;
  inputs = inputs;
  found = found_of (recorded_of tables inputs);
  results = eval tables inputs;
}

-- a sequence of the tables with its results
unfoldable pub sequence_under : TablesState → NamedSequence → KeptSequence
sequence_under tables entry = sequence_with tables entry.name (inputs_in (bindings_of tables) entry.sequence)
