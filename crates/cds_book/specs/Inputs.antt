-- What the results of a sequence rest on: the version of its method, its rows, and of each sequence that it lists the
-- standards with the method by which they are evaluated. Each version is the number of one, and 0, which stands for the
-- latest, becomes the number of versions that there are. This project's own.
use Rattle.std.specs.Prelude.{ℕ, ◌==◌, Bool, true, false, List, Option, Some, None, length, map, option_map, if◌then◌else◌}
use Rattle.std.specs.List.{filter_map}
use Rattle.cds_sign.specs.declared.inputs.Inputs.{Inputs}
use Rattle.cds_sign.specs.declared.inputs.Listed.{Listed}
use Rattle.cds_sign.specs.declared.inputs.ListedRow.{ListedRow}
use Rattle.cds_sign.specs.declared.row.Row.{Row}
use Rattle.cds_sign.specs.declared.row.RowKind.{RowKind}
use Rattle.cds_sign.specs.declared.row.RowKind.TheVariants.{Blank, Standard, Replicate, Sample}
use Rattle.cds_sign.specs.declared.sequence.Sequence.{Sequence}
use Rattle.cds_book.specs.Tables.{TablesState, signals_of, texts_of, sequence_of}

-- what bindings are resolved by: how many versions each trace name and each method has, and the sequence of each name
pub record Bindings : Type 0 where
  pub traces : List ℕ → ℕ
  pub methods : List ℕ → ℕ
  pub sequences : List ℕ → Option Sequence

-- what the tables have of it
unfoldable pub bindings_of : TablesState → Bindings
bindings_of tables = record {
  traces = λ name. length (signals_of tables name);
  methods = λ name. length (texts_of tables name);
  sequences = λ name. sequence_of tables name;
}

-- the version that is bound where there are so many: 0 is the latest, whose number is how many there are
abbrev pub resolved : ℕ → ℕ → ℕ
resolved count version = if version == 0 then count else version

-- a row with the version of its trace
unfoldable pub row_resolved : Bindings → Row → Row
row_resolved bound row = record row { version = resolved (bound.traces row.trace) row.version }

-- a row of a standard
abbrev pub is_standard : RowKind → Bool
is_standard Blank = false
is_standard Standard = true
is_standard Replicate = false
is_standard Sample = false

-- what a row gives to the sequences that list its own, if it is a standard, used or not
unfoldable pub row_listed : Bindings → Row → Option ListedRow
row_listed bound row =
    if is_standard row.kind
    then Some (record {
      trace = row.trace;
      version = resolved (bound.traces row.trace) row.version;
      used = row.used;
      amounts = row.amounts;
      events = row.events;
    })
    else None

-- what a sequence gives to those that list it: its method with the version, and its standard rows
unfoldable pub listed_as : Bindings → List ℕ → Sequence → Listed
listed_as bound name sequence = record {
  sequence = name;
  method = sequence.method;
  version = resolved (bound.methods sequence.method) sequence.version;
  rows = filter_map (row_listed bound) sequence.rows;
}

-- a listed sequence
unfoldable pub listed_of : Bindings → List ℕ → Option Listed
listed_of bound name = option_map (listed_as bound name) (bound.sequences name)

-- the inputs of a sequence: its method with the version, its rows, and the sequences that it lists, in their order
unfoldable pub inputs_in : Bindings → Sequence → Inputs
inputs_in bound sequence = record {
  method = sequence.method;
  version = resolved (bound.methods sequence.method) sequence.version;
  rows = map (row_resolved bound) sequence.rows;
  standards = filter_map (listed_of bound) sequence.standards;
}

-- the inputs of the sequence of a name; none where there is no such sequence
unfoldable pub inputs_by : Bindings → List ℕ → Option Inputs
inputs_by bound name = option_map (inputs_in bound) (bound.sequences name)

-- the inputs of a sequence of the tables
abbrev pub inputs_of : TablesState → List ℕ → Option Inputs
inputs_of tables name = inputs_by (bindings_of tables) name
