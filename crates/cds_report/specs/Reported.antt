-- What is reported of a sequence: how it stands in the tables, what its results rest on, and its results, computed
-- anew. This project's own.
use Rattle.std.specs.Prelude.{ℕ, List, Option, option_map}
use Rattle.std.specs.List.{filter_map}
use Rattle.cds_book.specs.Inputs.{bindings_of, inputs_in, inputs_of}
use Rattle.cds_book.specs.Tables.{TablesState, sequence_of}
use Rattle.cds_graph.specs.Recorded.{fields_bound}
use Rattle.cds_graph.specs.Results.{Results, eval}
use Rattle.cds_rules.specs.Fields.{Fields}
use Rattle.cds_sign.specs.declared.inputs.Inputs.{Inputs}
use Rattle.cds_sign.specs.declared.sequence.Sequence.{Sequence}

-- a sequence whose standards calibrate another one: its name, and what its own results rest on
pub record ListedReport : Type 0 where
  pub name : List ℕ
  pub inputs : Inputs

-- what is reported of a sequence
pub record Reported : Type 0 where
  pub name : List ℕ
  -- how often it was changed, and the number of its inputs
  pub edition : ℕ
  pub basis : ℕ
  -- its method and its rows, with the versions in use
  pub inputs : Inputs
  -- the sequences that it lists, in their order
  pub listed : List ListedReport
  -- what its method states
  pub fields : Fields
  pub results : Results

-- a listed sequence of the tables
abbrev pub listed_report : TablesState → List ℕ → Option ListedReport
listed_report tables name = option_map (λ inputs. record { name = name; inputs = inputs }) (inputs_of tables name)

-- what is reported of a sequence with these inputs
abbrev pub reported_with : TablesState → List ℕ → Sequence → Inputs → Reported
reported_with tables name sequence inputs = record {
  name = name;
  edition = sequence.edition;
  basis = sequence.basis;
  inputs = inputs;
  listed = filter_map (listed_report tables) sequence.standards;
  fields = fields_bound tables inputs;
  results = eval tables inputs;
}

-- what is reported of a sequence of the tables
unfoldable pub reported_in : TablesState → List ℕ → Sequence → Reported
reported_in tables name sequence = reported_with tables name sequence (inputs_in (bindings_of tables) sequence)

-- what is reported of the sequence of a name; nothing where there is no such sequence
abbrev pub reported_of : TablesState → List ℕ → Option Reported
reported_of tables name = option_map (reported_in tables name) (sequence_of tables name)
