-- What integration is done for: the keys of the rows and of the noises of all sequences, and what the new ones among
-- them may cost. It is a function of the tables alone. This project's own.
use Rattle.std.specs.Prelude.{ℕ, ◌+◌, ◌*◌, ◌==◌, ◌&&◌, Bool, not, List, []}
use Rattle.std.specs.Prelude.{◌∷◌, Option, find, map, flat_map, filter_map, length, option_map, sum_by}
use Rattle.std.specs.List.{filter, list_any}
use Rattle.std.specs.Option.{option_and_then}
use Rattle.std.specs.Str.{bytes_eq}
use Rattle.cds_rules.specs.Fields.{Fields}
use Rattle.cds_sign.specs.declared.inputs.Inputs.{Inputs}
use Rattle.cds_sign.specs.declared.row.Row.{Row}
use Rattle.cds_book.specs.Tables.{TablesState, NamedSequence}
use Rattle.cds_book.specs.Inputs.{bindings_of, inputs_in}
use Rattle.cds_book.specs.Same.{same_events}
use Rattle.cds_graph.specs.declared.key.RowKey.{RowKey}
use Rattle.cds_graph.specs.declared.method.MethodKey.{MethodKey}
use Rattle.cds_graph.specs.declared.limits.TheConstants.{ROW_STEPS, NOISE_STEPS}
use Rattle.cds_graph.specs.Recorded.{signal_in, fields_in}
use Rattle.cds_graph.specs.Rows.{is_blank}
use Rattle.cds_graph.specs.Noise.{NoiseWindow, window_of}

-- what a noise is found by: the version of the blank's trace, and the window
pub record NoiseKey : Type 0 where
  pub trace : List ℕ
  pub version : ℕ
  pub window : NoiseWindow

-- keys of rows are the same where each part is
abbrev pub same_row_key : RowKey → RowKey → Bool
same_row_key a b =
    bytes_eq a.trace b.trace && ((a.version == b.version)
    && (bytes_eq a.method b.method && ((a.method_version == b.method_version) && same_events a.events b.events)))

-- keys of noises are the same where each part is
abbrev pub same_noise_key : NoiseKey → NoiseKey → Bool
same_noise_key a b =
    bytes_eq a.trace b.trace && ((a.version == b.version)
    && ((a.window.from_ms == b.window.from_ms) && (a.window.to_ms == b.window.to_ms)))

-- keys of methods are the same where the name and the version are
abbrev pub same_method_key : MethodKey → MethodKey → Bool
same_method_key a b = bytes_eq a.name b.name && (a.version == b.version)

-- each key once, where it first stands
abbrev pub once : {K : Type 0} → (K → K → Bool) → List K → List K
once same [] = []
once same (key ∷ later) = key ∷ filter (λ other. not (same key other)) (once same later)

-- the inputs of all sequences, in byte order of the names
abbrev pub all_inputs : TablesState → List Inputs
all_inputs tables =
    map (λ (entry : NamedSequence). inputs_in (bindings_of tables) entry.sequence) tables.sequences

-- the key of a row of a sequence with these inputs
abbrev pub row_key : Inputs → Row → RowKey
row_key inputs row = record {
  trace = row.trace;
  version = row.version;
  method = inputs.method;
  method_version = inputs.version;
  events = row.events;
}

-- the keys of the rows of a sequence with these inputs
abbrev pub row_keys_in : Inputs → List RowKey
row_keys_in inputs = map (row_key inputs) inputs.rows

-- the keys of the rows of all sequences, each once
unfoldable pub row_keys : TablesState → List RowKey
row_keys tables = once same_row_key (flat_map row_keys_in (all_inputs tables))

-- the key of the method of a sequence with these inputs
abbrev pub method_key : Inputs → MethodKey
method_key inputs = record { name = inputs.method; version = inputs.version }

-- the keys of the methods of all sequences, each once
unfoldable pub method_keys : TablesState → List MethodKey
method_keys tables = once same_method_key (map method_key (all_inputs tables))

-- the key of the noise of a row in a window
abbrev pub noise_key : Row → NoiseWindow → NoiseKey
noise_key row window = record { trace = row.trace; version = row.version; window = window }

-- the key of the noise of a sequence with these inputs under what its method states: that of its first blank row, if
-- it has one and the method states a window
abbrev pub noise_key_by : Fields → Inputs → Option NoiseKey
noise_key_by fields inputs =
    let blank = find (λ (row : Row). is_blank row.kind) inputs.rows in
    option_and_then (λ (row : Row). option_map (noise_key row) (window_of fields)) blank

-- the key of the noise of a sequence with these inputs
abbrev pub noise_key_of : TablesState → Inputs → Option NoiseKey
noise_key_of tables inputs = noise_key_by (fields_in tables inputs.method inputs.version) inputs

-- the keys of the noises of all sequences, each once
unfoldable pub noise_keys : TablesState → List NoiseKey
noise_keys tables = once same_noise_key (filter_map (noise_key_of tables) (all_inputs tables))

-- the keys that aren't among those known before
abbrev pub new_keys : {K : Type 0} → (K → K → Bool) → List K → List K → List K
new_keys same known keys = filter (λ key. not (list_any (same key) known)) keys

-- how many samples a version of a trace has
abbrev pub samples_of : TablesState → List ℕ → ℕ → ℕ
samples_of tables trace version = length (signal_in tables trace version).samples

-- the most steps of the row of a key: 32 for each sample of its trace
abbrev pub row_steps : TablesState → RowKey → ℕ
row_steps tables key = ROW_STEPS * samples_of tables key.trace key.version

-- the most steps of the noise of a key: 2 for each sample of its trace
abbrev pub noise_steps : TablesState → NoiseKey → ℕ
noise_steps tables key = NOISE_STEPS * samples_of tables key.trace key.version

-- the most steps that a change of the tables may take: those of each new row key and of each new noise key
unfoldable pub fresh : TablesState → TablesState → ℕ
fresh before after =
    sum_by (row_steps after) (new_keys same_row_key (row_keys before) (row_keys after))
    + sum_by (noise_steps after) (new_keys same_noise_key (noise_keys before) (noise_keys after))
