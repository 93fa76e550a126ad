-- What a graph keeps that stands for tables is right for the tables after any change, and what of it is new.
use Rattle.std.proofs.Common.{◌≡◌, ◌∙◌, ℕ, ◌+◌, ◌<◌, ◌≤◌, ◌==◌, Bool, true, false, List, [], ◌∷◌, length, map, Option}
use Rattle.std.proofs.Common.{Some, None, Result, Ok, Err, option_map, find, refl, sym, ap, ap₂}
use Rattle.std.specs.Prelude.{All, IfSome, IfOk, IsSome, sum_by}
use Rattle.std.specs.List.{flat_map, filter_map}
use Rattle.std.proofs.lemmas.List.Elements.{All-map, All-weaker, All-nil}
use Rattle.cds_sign.specs.declared.inputs.Inputs.{Inputs}
use Rattle.cds_sign.specs.declared.row.Row.{Row}
use Rattle.cds_book.specs.Inputs.{bindings_of, inputs_in}
use Rattle.cds_book.specs.Tables.{TablesState, NamedSequence, trace_of, method_of, empty_tables}
use Rattle.cds_book.specs.Kept.{IsTables}
use Rattle.cds_graph.specs.declared.key.RowKey.{RowKey}
use Rattle.cds_graph.specs.declared.method.MethodKey.{MethodKey}
use Rattle.cds_graph.specs.Building.{HoldsNoise, IsRight, IsRightSequence, new_row_steps, new_noise_steps}
use Rattle.cds_graph.specs.Graph.{graph_of, empty_graph}
use Rattle.cds_graph.specs.Keys.{NoiseKey, once, all_inputs, row_key, row_keys_in, method_key, noise_key_of, fresh}
use Rattle.cds_graph.specs.Keys.{same_row_key, same_method_key, same_noise_key, row_keys, method_keys, noise_keys}
use Rattle.cds_graph.specs.Keys.{new_keys, row_steps, noise_steps}
use Rattle.cds_graph.specs.Kept.{KeptRow, KeptNoise, KeptMethod, KeptSequence}
use Rattle.cds_graph.specs.Kept.{row_under, noise_under, method_under, sequence_under}
use Rattle.cds_graph.specs.Rows.{found_in}
use Rattle.cds_graph.specs.Staying.{HoldsInputs, KeepsVersions}
use Rattle.cds_graph.proofs.AmongLaws.{All-flat_map, All-filter_map, All-once, All-of_map}
use Rattle.cds_graph.proofs.BoundLaws.{all-there}
use Rattle.cds_graph.proofs.ReadyLaws.{noises-there}
use Rattle.cds_graph.proofs.StayLaws.{signal-agree, fields-agree, kept-same, sequence-kept}

-- the trace and the method of a key are there
record HoldsKey (t : TablesState) (key : RowKey) : Type 0 where
  trace : IsSome (trace_of t key.trace key.version)
  method : IsSome (method_of t key.method key.method_version)

-- what keys name is the same after a change, where it was there before
module _ (before after : TablesState) (keeps : KeepsVersions before after) where
  row_under-kept : (key : RowKey) → HoldsKey before key → row_under before key ≡ row_under after key
  unfolding row_under
  row_under-kept key holds =
      let signal = signal-agree before after key.trace key.version
      (sym (kept-same (trace_of before key.trace key.version) _ holds.trace (keeps.traces key.trace key.version))) in
      let fields = fields-agree before after key.method key.method_version
      (sym (kept-same (method_of before key.method key.method_version) _ holds.method
      (keeps.methods key.method key.method_version))) in
      ap₂ (λ s f. record { key = key; period = s.period; found = found_in s f key.events }) signal fields

  noise_under-kept : (key : NoiseKey) → HoldsNoise before key → noise_under before key ≡ noise_under after key
  unfolding noise_under
  noise_under-kept key holds =
      let signal = signal-agree before after key.trace key.version
      (sym (kept-same (trace_of before key.trace key.version) _ holds (keeps.traces key.trace key.version))) in
      rw signal refl

  abbrev HoldsText : MethodKey → Type 0
  HoldsText key = IsSome (method_of before key.name key.version)

  method_under-kept : (key : MethodKey) → IsSome (method_of before key.name key.version) →
      method_under before key ≡ method_under after key
  unfolding method_under
  method_under-kept key holds =
      let fields = fields-agree before after key.name key.version
      (sym (kept-same (method_of before key.name key.version) _ holds (keeps.methods key.name key.version))) in
      rw fields refl

  -- the traces and the methods of the keys of rows are there
  keys-hold : (i : Inputs) → HoldsInputs before i → All (HoldsKey before) (row_keys_in i)
  keys-hold i is =
      All-map (HoldsKey before) (row_key i) i.rows
      (All-weaker (λ (r : Row). IsSome (trace_of before r.trace r.version))
      (λ (r : Row). HoldsKey before (row_key i r)) of_row i.rows is.rows)
    where
      of_row : (r : Row) → IsSome (trace_of before r.trace r.version) → HoldsKey before (row_key i r)
      of_row r there = record { trace = there; method = is.method }

  -- what the graph keeps that stands for the tables before is right for those after
  pub graph_of-right : IsTables before → IsRight after (graph_of before)
  unfolding graph_of method_keys row_keys noise_keys sequence_under row_under noise_under method_under
  graph_of-right ready =
      let there = all-there before ready.bound in
      record {
        methods = All-map (λ (m : KeptMethod). m ≡ method_under after m.key) (method_under before) (method_keys before)
            (All-weaker HoldsText _ method_under-kept
            (method_keys before) (All-once HoldsText same_method_key (map method_key (all_inputs before))
            (All-map HoldsText method_key (all_inputs before)
            (All-weaker (HoldsInputs before) _ (λ i is. is.method) (all_inputs before) there))));
        rows = All-map (λ (r : KeptRow). r ≡ row_under after r.key) (row_under before) (row_keys before)
            (All-weaker (HoldsKey before) _ row_under-kept (row_keys before)
            (All-once (HoldsKey before) same_row_key (flat_map row_keys_in (all_inputs before))
            (All-flat_map (HoldsKey before) row_keys_in (all_inputs before)
            (All-weaker (HoldsInputs before) (λ (i : Inputs). All (HoldsKey before) (row_keys_in i))
            keys-hold (all_inputs before) there))));
        noises = All-map (λ (n : KeptNoise). n ≡ noise_under after n.key) (noise_under before) (noise_keys before)
            (All-weaker (HoldsNoise before) _ noise_under-kept (noise_keys before)
            (All-once (HoldsNoise before) same_noise_key (filter_map (noise_key_of before) (all_inputs before))
            (noises-there before ready)));
        sequences = All-map (IsRightSequence after) (sequence_under before) before.sequences
            (All-weaker (λ (e : NamedSequence). HoldsInputs before (inputs_in (bindings_of before) e.sequence)) _
            (λ e is. sym (sequence-kept before after keeps e.name (inputs_in (bindings_of before) e.sequence) is))
            before.sequences
            (All-of_map (HoldsInputs before) _ before.sequences there));
      }

-- the keys of what is kept under keys are the keys
keys-kept : {K R : Type 0} (make : K → R) (key_of : R → K) → ((k : K) → key_of (make k) ≡ k) → (keys : List K) →
    map key_of (map make keys) ≡ keys
keys-kept make key_of makes [] = refl
keys-kept make key_of makes (k ∷ keys) = ap₂ (λ x xs. x ∷ xs) (makes k) (keys-kept make key_of makes keys)

-- the steps of what isn't kept in the graph that stands for the tables before
pub fresh-kept : (before after : TablesState) →
    new_row_steps after (graph_of before).rows (row_keys after)
    + new_noise_steps after (graph_of before).noises (noise_keys after) ≡ fresh before after
unfolding graph_of fresh row_under noise_under
fresh-kept before after =
    let rows = keys-kept (row_under before) (λ (r : KeptRow). r.key) (λ k. refl) (row_keys before) in
    let noises = keys-kept (noise_under before) (λ (n : KeptNoise). n.key) (λ k. refl) (noise_keys before) in
    ap₂ (λ rs ns. sum_by (row_steps after) (new_keys same_row_key rs (row_keys after))
    + sum_by (noise_steps after) (new_keys same_noise_key ns (noise_keys after))) rows noises

-- the steps of all, where nothing is kept
pub fresh-all : (t : TablesState) →
    new_row_steps t [] (row_keys t) + new_noise_steps t [] (noise_keys t) ≡ fresh empty_tables t
unfolding fresh row_keys noise_keys
fresh-all t = refl

-- what is kept for tables is the graph of the tables
pub graph_of-built : (t : TablesState) (methods : List KeptMethod) (rows : List KeptRow) (noises : List KeptNoise)
    (sequences : List KeptSequence) → methods ≡ map (method_under t) (method_keys t) →
    rows ≡ map (row_under t) (row_keys t) → noises ≡ map (noise_under t) (noise_keys t) →
    sequences ≡ map (sequence_under t) t.sequences →
    record { methods = methods; rows = rows; noises = noises; sequences = sequences } ≡ graph_of t
unfolding graph_of
graph_of-built t methods rows noises sequences e0 e1 e2 e3 = rw (e0, e1, e2, e3) refl
