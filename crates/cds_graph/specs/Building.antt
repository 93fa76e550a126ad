-- How a graph is built for tables: out of the tables, a change that isn't carried out yet, and what was kept before. No
-- public clause names this.
use Rattle.std.specs.Prelude.{◌≡◌, ℕ, ◌≤◌, true, List, [], ◌∷◌, ◌++◌, All, Option, Some, None, IfSome, IsSome, IsTrue}
use Rattle.std.specs.Prelude.{is_ok, is_some, length, map, option_copied, sum_by, if◌then◌else◌}
use Rattle.std.specs.List.{list_any}
use Rattle.cds_base.specs.Named.{placed}
use Rattle.cds_rules.specs.Stated.{stated}
use Rattle.cds_sign.specs.declared.command.Change.{Change}
use Rattle.cds_sign.specs.declared.command.Change.TheVariants as change
use Rattle.cds_sign.specs.declared.inputs.Inputs.{Inputs}
use Rattle.cds_sign.specs.declared.inputs.Listed.{Listed}
use Rattle.cds_sign.specs.declared.inputs.ListedRow.{ListedRow}
use Rattle.cds_sign.specs.declared.limits.TheConstants.{MOST_ROWS}
use Rattle.cds_sign.specs.declared.row.Row.{Row}
use Rattle.cds_book.specs.Plan.{with_change}
use Rattle.cds_book.specs.Tables.{TablesState, NamedSequence, trace_of, method_of, sequence_of}
use Rattle.cds_graph.specs.declared.key.RowKey.{RowKey}
use Rattle.cds_graph.specs.declared.method.MethodKey.{MethodKey}
use Rattle.cds_graph.specs.declared.source.Source.{Source}
use Rattle.cds_graph.specs.Graph.{Kept}
use Rattle.cds_graph.specs.Kept.{KeptRow, KeptNoise, KeptMethod, KeptSequence}
use Rattle.cds_graph.specs.Kept.{row_under, noise_under, method_under, sequence_with}
use Rattle.cds_graph.specs.Keys.{NoiseKey, same_row_key, same_noise_key, same_method_key, once, new_keys}
use Rattle.cds_graph.specs.Keys.{row_key, method_key, noise_key_of, row_keys, noise_keys, method_keys}
use Rattle.cds_graph.specs.Keys.{row_steps, noise_steps}
use Rattle.cds_graph.specs.Ranges.{AreAmounts}

-- the tables that a graph is built for
abbrev pub after : Source → TablesState
after source = with_change source.tables.now.state (option_copied source.change)

-- the name of the sequence that a change puts, makes other or signs; none where it does nothing to a sequence
abbrev pub sequence_placed : TablesState → Option Change → Option (List ℕ)
sequence_placed tables None = None
sequence_placed tables (Some (change.Trace name signal)) = None
sequence_placed tables (Some (change.Draft name text)) = None
sequence_placed tables (Some (change.Freeze name version)) = None
sequence_placed tables (Some (change.Sequence name edition method version standards rows)) = Some name
sequence_placed tables (Some (change.Events name edition row events)) =
    if is_some (sequence_of tables name) then Some name else None
sequence_placed tables (Some (change.Rebind name edition version)) =
    if is_some (sequence_of tables name) then Some name else None
sequence_placed tables (Some (change.Sign name number basis moment signer meaning text)) =
    if is_some (sequence_of tables name) then Some name else None

-- names with one more at its place
abbrev pub names_with : Option (List ℕ) → List (List ℕ) → List (List ℕ)
names_with None names = names
names_with (Some name) names = placed (λ (n : List ℕ). n) names name

-- the names of the sequences
abbrev pub names_of : TablesState → List (List ℕ)
names_of tables = map (λ (entry : NamedSequence). entry.name) tables.sequences

-- the key of a standard row of a listed sequence
abbrev pub listed_key : Listed → ListedRow → RowKey
listed_key listed row = record {
  trace = row.trace;
  version = row.version;
  method = listed.method;
  method_version = listed.version;
  events = row.events;
}

-- the key of the method of a listed sequence
abbrev pub listed_method : Listed → MethodKey
listed_method listed = record { name = listed.method; version = listed.version }

-- a row of a sequence has a key of the tables
abbrev pub KnowsRow : TablesState → RowKey → Type 0
KnowsRow tables key = list_any (same_row_key key) (row_keys tables) ≡ true

-- a method has a key of the tables
abbrev pub KnowsMethod : TablesState → MethodKey → Type 0
KnowsMethod tables key = list_any (same_method_key key) (method_keys tables) ≡ true

-- a noise has a key of the tables
abbrev pub KnowsNoise : TablesState → NoiseKey → Type 0
KnowsNoise tables key = list_any (same_noise_key key) (noise_keys tables) ≡ true

-- the keys of a listed sequence are keys of the tables
pub record KnowsListed (tables : TablesState) (listed : Listed) : Type 0 where
  pub method : KnowsMethod tables (listed_method listed)
  pub rows : All (λ (row : ListedRow). KnowsRow tables (listed_key listed row)) listed.rows

-- the keys of all that inputs name are keys of the tables
pub record KnowsInputs (tables : TablesState) (inputs : Inputs) : Type 0 where
  pub method : KnowsMethod tables (method_key inputs)
  pub rows : All (λ (row : Row). KnowsRow tables (row_key inputs row)) inputs.rows
  pub standards : All (KnowsListed tables) inputs.standards
  pub noise : IfSome (noise_key_of tables inputs) (KnowsNoise tables)

-- inputs are within their ranges
pub record AreRanged (inputs : Inputs) : Type 0 where
  pub few : length inputs.rows ≤ MOST_ROWS
  pub diluted : All (λ (row : Row). 1 ≤ row.v) inputs.rows
  pub standards : All (λ (listed : Listed). All (λ (row : ListedRow). AreAmounts row.amounts) listed.rows)
      inputs.standards

-- the text of a method's version is there, and is one of a method
abbrev pub HoldsMethod : TablesState → MethodKey → Type 0
HoldsMethod tables key =
    (IsSome (method_of tables key.name key.version))
    × IfSome (method_of tables key.name key.version) (λ text. IsTrue (is_ok (stated text)))

-- the trace and the method of a row's key are there
pub record HoldsRow (tables : TablesState) (key : RowKey) : Type 0 where
  pub trace : IsSome (trace_of tables key.trace key.version)
  pub method : KnowsMethod tables (record { name = key.method; version = key.method_version })

-- the trace of a noise's key is there
abbrev pub HoldsNoise : TablesState → NoiseKey → Type 0
HoldsNoise tables key = IsSome (trace_of tables key.trace key.version)

-- kept methods, rows and noises are each what its key names in the tables
abbrev pub AreMethods : TablesState → List KeptMethod → Type 0
AreMethods tables kept = All (λ (m : KeptMethod). m ≡ method_under tables m.key) kept

abbrev pub AreRows : TablesState → List KeptRow → Type 0
AreRows tables kept = All (λ (r : KeptRow). r ≡ row_under tables r.key) kept

abbrev pub AreNoises : TablesState → List KeptNoise → Type 0
AreNoises tables kept = All (λ (n : KeptNoise). n ≡ noise_under tables n.key) kept

-- a kept sequence is what is found for its inputs in the tables, with their results
abbrev pub IsRightSequence : TablesState → KeptSequence → Type 0
IsRightSequence tables s = s ≡ sequence_with tables s.name s.inputs

abbrev pub AreSequences : TablesState → List KeptSequence → Type 0
AreSequences tables kept = All (IsRightSequence tables) kept

-- all that is kept is right for the tables
pub record IsRight (tables : TablesState) (kept : Kept) : Type 0 where
  pub methods : AreMethods tables kept.methods
  pub rows : AreRows tables kept.rows
  pub noises : AreNoises tables kept.noises
  pub sequences : AreSequences tables kept.sequences

-- kept methods, rows and noises are those of these keys
abbrev pub MethodsOf : TablesState → List MethodKey → List KeptMethod → Type 0
MethodsOf tables keys kept = kept ≡ map (method_under tables) (once same_method_key keys)

abbrev pub RowsOf : TablesState → List RowKey → List KeptRow → Type 0
RowsOf tables keys kept = kept ≡ map (row_under tables) (once same_row_key keys)

abbrev pub NoisesOf : TablesState → List NoiseKey → List KeptNoise → Type 0
NoisesOf tables keys kept = kept ≡ map (noise_under tables) (once same_noise_key keys)

-- kept methods, rows and noises are those of the tables
abbrev pub HasMethods : TablesState → List KeptMethod → Type 0
HasMethods tables kept = kept ≡ map (method_under tables) (method_keys tables)

abbrev pub HasRows : TablesState → List KeptRow → Type 0
HasRows tables kept = kept ≡ map (row_under tables) (row_keys tables)

abbrev pub HasNoises : TablesState → List KeptNoise → Type 0
HasNoises tables kept = kept ≡ map (noise_under tables) (noise_keys tables)

-- the keys of kept rows and of kept noises
abbrev pub keys_of_rows : List KeptRow → List RowKey
keys_of_rows rows = map (λ (r : KeptRow). r.key) rows

abbrev pub keys_of_noises : List KeptNoise → List NoiseKey
keys_of_noises noises = map (λ (n : KeptNoise). n.key) noises

-- the most steps of the rows of these keys that aren't kept yet
abbrev pub new_row_steps : TablesState → List KeptRow → List RowKey → ℕ
new_row_steps tables kept keys = sum_by (row_steps tables) (new_keys same_row_key (keys_of_rows kept) keys)

-- the most steps of the noises of these keys that aren't kept yet
abbrev pub new_noise_steps : TablesState → List KeptNoise → List NoiseKey → ℕ
new_noise_steps tables kept keys = sum_by (noise_steps tables) (new_keys same_noise_key (keys_of_noises kept) keys)
