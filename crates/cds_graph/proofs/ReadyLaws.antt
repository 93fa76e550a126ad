-- What is there for the sequences of tables that keep their rules: the traces and the methods of all keys, and a key of
-- the tables for all that inputs name.
use Rattle.std.proofs.Common.{◌≡◌, ◌∙◌, ℕ, ◌-◌, ◌==◌, Bool, true, false, List, [], ◌∷◌, length, map, Option, Some, None}
use Rattle.std.proofs.Common.{option_map, find, inl, inr, refl, sym, ap, subst, if◌then◌else◌}
use Rattle.std.specs.Prelude.{All, IfSome, IsSome, IsTrue, is_ok, slice_get}
use Rattle.std.specs.List.{filter_map, flat_map, list_any, cons_option}
use Rattle.std.specs.Option.{option_and_then}
use Rattle.std.proofs.lemmas.List.Elements.{All-head, All-tail, All-cons, All-nil, All-map, All-weaker}
use Rattle.std.proofs.lemmas.Option.{slice_get_cases}
use Rattle.cds_base.proofs.NamedLaws.{named-All}
use Rattle.cds_rules.specs.Fields.{Fields}
use Rattle.cds_rules.specs.Stated.{stated}
use Rattle.cds_sign.specs.declared.inputs.Inputs.{Inputs}
use Rattle.cds_sign.specs.declared.inputs.Listed.{Listed}
use Rattle.cds_sign.specs.declared.inputs.ListedRow.{ListedRow}
use Rattle.cds_sign.specs.declared.row.Row.{Row}
use Rattle.cds_sign.specs.declared.sequence.Sequence.{Sequence}
use Rattle.cds_book.specs.Inputs.{bindings_of, resolved, row_resolved, row_listed, is_standard, listed_as, listed_of}
use Rattle.cds_book.specs.Inputs.{inputs_in}
use Rattle.cds_book.specs.Kept.{IsTables, IsMethod, IsMethodEntry}
use Rattle.cds_book.specs.Tables.{TablesState, NamedSequence, NamedMethod, sequence_of, sequence_named, method_named}
use Rattle.cds_book.specs.Tables.{method_of, trace_of, numbered, signals_of}
use Rattle.cds_graph.specs.declared.key.RowKey.{RowKey}
use Rattle.cds_graph.specs.declared.method.MethodKey.{MethodKey}
use Rattle.cds_graph.specs.Building.{listed_key, listed_method, KnowsRow, KnowsMethod, KnowsNoise, KnowsListed}
use Rattle.cds_graph.specs.Building.{KnowsInputs, HoldsMethod, HoldsRow, HoldsNoise}
use Rattle.cds_graph.specs.Keys.{NoiseKey, once, all_inputs, row_key, row_keys_in, method_key, noise_key_of, noise_key}
use Rattle.cds_graph.specs.Keys.{noise_key_by, same_row_key, same_method_key, same_noise_key}
use Rattle.cds_graph.specs.Keys.{row_keys, method_keys, noise_keys}
use Rattle.cds_graph.specs.Noise.{NoiseWindow, window_of}
use Rattle.cds_graph.specs.Recorded.{fields_in}
use Rattle.cds_graph.specs.Rows.{is_blank}
use Rattle.cds_graph.specs.Staying.{HoldsInputs}
use Rattle.cds_graph.proofs.AmongLaws.{All-of_map, All-both, All-flat_map, All-filter_map, find-All, each-among}
use Rattle.cds_graph.proofs.AmongLaws.{each-among_parts, each-among_given}
use Rattle.cds_graph.proofs.BoundLaws.{all-there}
use Rattle.cds_graph.proofs.KeyLaws.{same_row_key-Decides, same_method_key-Decides, same_noise_key-Decides}
use Rattle.cds_graph.proofs.OnceLaws.{list_any-once, same-self}

-- the keys of the rows of each sequence are keys of the tables
rows-known : (t : TablesState) → All (λ (i : Inputs). All (KnowsRow t) (row_keys_in i)) (all_inputs t)
unfolding row_keys
rows-known t =
    All-weaker (λ (i : Inputs). All (λ k. list_any (same_row_key k) (flat_map row_keys_in (all_inputs t)) ≡ true)
    (row_keys_in i)) (λ i. All (KnowsRow t) (row_keys_in i))
    (λ i all. All-weaker (λ k. list_any (same_row_key k) (flat_map row_keys_in (all_inputs t)) ≡ true) (KnowsRow t)
    (λ k among. list_any-once same_row_key same_row_key-Decides k (flat_map row_keys_in (all_inputs t)) ∙ among)
    (row_keys_in i) all) (all_inputs t)
    (each-among_parts same_row_key (same-self same_row_key same_row_key-Decides) row_keys_in (all_inputs t))

-- the key of the method of each sequence is a key of the tables
pub methods-known : (t : TablesState) → All (λ (i : Inputs). KnowsMethod t (method_key i)) (all_inputs t)
unfolding method_keys
methods-known t =
    All-of_map (KnowsMethod t) method_key (all_inputs t)
    (All-weaker (λ k. list_any (same_method_key k) (map method_key (all_inputs t)) ≡ true) (KnowsMethod t)
    (λ k among. list_any-once same_method_key same_method_key-Decides k (map method_key (all_inputs t)) ∙ among)
    (map method_key (all_inputs t))
    (each-among same_method_key (same-self same_method_key same_method_key-Decides) (map method_key (all_inputs t))))

-- the key of the noise of each sequence is a key of the tables
noises-known : (t : TablesState) → All (λ (i : Inputs). IfSome (noise_key_of t i) (KnowsNoise t)) (all_inputs t)
unfolding noise_keys
noises-known t =
    All-weaker (λ (i : Inputs). IfSome (noise_key_of t i)
    (λ k. list_any (same_noise_key k) (filter_map (noise_key_of t) (all_inputs t)) ≡ true))
    (λ i. IfSome (noise_key_of t i) (KnowsNoise t)) (λ i is. by_key (noise_key_of t i) is) (all_inputs t)
    (each-among_given same_noise_key (same-self same_noise_key same_noise_key-Decides) (noise_key_of t) (all_inputs t))
  where
    by_key : (o : Option NoiseKey) →
        IfSome o (λ k. list_any (same_noise_key k) (filter_map (noise_key_of t) (all_inputs t)) ≡ true) →
        IfSome o (KnowsNoise t)
    by_key None is = tt
    by_key (Some k) is =
        list_any-once same_noise_key same_noise_key-Decides k (filter_map (noise_key_of t) (all_inputs t)) ∙ is

-- the method and the rows of a sequence have keys of the tables
record KnowsOwn (t : TablesState) (i : Inputs) : Type 0 where
  method : KnowsMethod t (method_key i)
  rows : All (KnowsRow t) (row_keys_in i)

own-known : (t : TablesState) →
    All (λ (e : NamedSequence). KnowsOwn t (inputs_in (bindings_of t) e.sequence)) t.sequences
own-known t =
    All-of_map (KnowsOwn t) (λ (e : NamedSequence). inputs_in (bindings_of t) e.sequence) t.sequences
    (λ k d within. record { method = methods-known t k d within; rows = rows-known t k d within })

-- the standard rows of a sequence have the keys of its own rows
listed_rows-known : (t : TablesState) (name : List ℕ) (s : Sequence) (rows : List Row) →
    All (KnowsRow t) (map (row_key (inputs_in (bindings_of t) s)) (map (row_resolved (bindings_of t)) rows)) →
    All (λ (r : ListedRow). KnowsRow t (listed_key (listed_as (bindings_of t) name s) r))
    (filter_map (row_listed (bindings_of t)) rows)
unfolding row_listed row_resolved listed_as inputs_in
listed_rows-known t name s [] all =
    All-nil (λ (r : ListedRow). KnowsRow t (listed_key (listed_as (bindings_of t) name s) r))
listed_rows-known t name s (row ∷ rows) all =
    by_kind (is_standard row.kind) (All-head (KnowsRow t) _ _ all)
    (listed_rows-known t name s rows (All-tail (KnowsRow t) _ _ all))
  where
    Known : ListedRow → Type 0
    Known r = KnowsRow t (listed_key (listed_as (bindings_of t) name s) r)

    listed : ListedRow
    listed = record {
      trace = row.trace;
      version = resolved ((bindings_of t).traces row.trace) row.version;
      used = row.used;
      amounts = row.amounts;
      events = row.events;
    }

    by_kind : (b : Bool) → Known listed → All Known (filter_map (row_listed (bindings_of t)) rows) →
        All Known (cons_option (if b then Some listed else None) (filter_map (row_listed (bindings_of t)) rows))
    by_kind true here later = All-cons Known listed _ here later
    by_kind false here later = later

-- what listed sequences name has keys of the tables
listed-known : (t : TablesState) (names : List (List ℕ)) →
    All (KnowsListed t) (filter_map (listed_of (bindings_of t)) names)
unfolding listed_of listed_as inputs_in bindings_of sequence_of
listed-known t [] = All-nil (KnowsListed t)
listed-known t (name ∷ names) = by_found (sequence_named t name) refl (listed-known t names)
  where
    by_found : (found : Option NamedSequence) → sequence_named t name ≡ found →
        All (KnowsListed t) (filter_map (listed_of (bindings_of t)) names) →
        All (KnowsListed t) (cons_option
        (option_map (listed_as (bindings_of t) name) (option_map (λ (e : NamedSequence). e.sequence) found))
        (filter_map (listed_of (bindings_of t)) names))
    by_found None there later = later
    by_found (Some e) there later =
        let own = named-All (λ (x : NamedSequence). x.name)
        (λ (x : NamedSequence). KnowsOwn t (inputs_in (bindings_of t) x.sequence)) t.sequences name e
        (own-known t) there in
        All-cons (KnowsListed t) (listed_as (bindings_of t) name e.sequence) _
        (record {
          method = own.method;
          rows = listed_rows-known t name e.sequence e.sequence.rows own.rows;
        })
        later

-- all that the inputs of the sequences name has keys of the tables
pub all-known : (t : TablesState) → All (KnowsInputs t) (all_inputs t)
unfolding inputs_in
all-known t =
    let standards : All (λ (i : Inputs). All (KnowsListed t) i.standards) (all_inputs t) =
    All-map (λ (i : Inputs). All (KnowsListed t) i.standards)
    (λ (e : NamedSequence). inputs_in (bindings_of t) e.sequence) t.sequences
    (λ k d within. listed-known t _) in
    λ k d within. record {
      method = methods-known t k d within;
      rows = All-of_map (KnowsRow t) _ _ (rows-known t k d within);
      standards = standards k d within;
      noise = noises-known t k d within;
    }

-- a version of those of which each is so
numbered-All : {X : Type 0} (P : X → Type 0) (versions : List X) (number : ℕ) → All P versions →
    IfSome (numbered versions number) P
numbered-All {X} P versions number all = by_zero (number == 0)
  where
    at : (i : ℕ) → IfSome (slice_get versions i) P
    at i = elim (slice_get_cases versions i).1 [
      | inl (x, within, is, here) ↦ rw is (subst P here (all i x within))
      | inr (past, is) ↦ rw is tt
    ]

    by_zero : (b : Bool) → IfSome (if b then None else slice_get versions (number - 1)) P
    by_zero true = tt
    by_zero false = at (number - 1)

-- the text of a version of a method is one of a method
method_of-method : (t : TablesState) → IsTables t → (name : List ℕ) (version : ℕ) →
    IfSome (method_of t name version) IsMethod
unfolding method_of
method_of-method t ready name version = by_found (method_named t name) refl
  where
    by_found : (found : Option NamedMethod) → method_named t name ≡ found →
        IfSome (option_and_then (λ (e : NamedMethod). numbered e.versions version) found) IsMethod
    by_found None there = tt
    by_found (Some e) there =
        numbered-All IsMethod e.versions version (named-All (λ (x : NamedMethod). x.name) IsMethodEntry t.methods
        name e ready.methods.each there).versions

-- the methods of all sequences are there
pub methods-there : (t : TablesState) → IsTables t → All (HoldsMethod t) (map method_key (all_inputs t))
methods-there t ready =
    All-map (HoldsMethod t) method_key (all_inputs t)
    (All-weaker (HoldsInputs t) (λ (i : Inputs). HoldsMethod t (method_key i))
    (λ i is. (is.method, method_of-method t ready i.method i.version)) (all_inputs t) (all-there t ready.bound))

-- the traces and the methods of all rows are there
pub rows-there : (t : TablesState) → IsTables t → All (HoldsRow t) (flat_map row_keys_in (all_inputs t))
rows-there t ready =
    All-flat_map (HoldsRow t) row_keys_in (all_inputs t)
    (All-weaker (λ (i : Inputs). HoldsInputs t i × KnowsMethod t (method_key i))
    (λ (i : Inputs). All (HoldsRow t) (row_keys_in i)) of_inputs (all_inputs t)
    (All-both (HoldsInputs t) (λ (i : Inputs). KnowsMethod t (method_key i)) (all_inputs t)
    (all-there t ready.bound) (methods-known t)))
  where
    of_row : (i : Inputs) → KnowsMethod t (method_key i) → (r : Row) → IsSome (trace_of t r.trace r.version) →
        HoldsRow t (row_key i r)
    of_row i known r there = record { trace = there; method = known }

    of_inputs : (i : Inputs) → HoldsInputs t i × KnowsMethod t (method_key i) → All (HoldsRow t) (row_keys_in i)
    of_inputs i both =
        All-map (HoldsRow t) (row_key i) i.rows
        (All-weaker (λ (r : Row). IsSome (trace_of t r.trace r.version)) (λ (r : Row). HoldsRow t (row_key i r))
        (of_row i both.1) i.rows both.0.rows)

-- the traces of all noises are there
pub noises-there : (t : TablesState) → IsTables t → All (HoldsNoise t) (filter_map (noise_key_of t) (all_inputs t))
noises-there t ready =
    All-filter_map (HoldsNoise t) (noise_key_of t) (all_inputs t)
    (All-weaker (HoldsInputs t) (λ (i : Inputs). IfSome (noise_key_of t i) (HoldsNoise t))
    (λ i is. by_blank (window_of (fields_in t i.method i.version)) (find (λ (r : Row). is_blank r.kind) i.rows)
    (find-All (λ (r : Row). IsSome (trace_of t r.trace r.version)) (λ (r : Row). is_blank r.kind) i.rows is.rows))
    (all_inputs t) (all-there t ready.bound))
  where
    by_blank : (window : Option NoiseWindow) (o : Option Row) →
        IfSome o (λ (r : Row). IsSome (trace_of t r.trace r.version)) →
        IfSome (option_and_then (λ (r : Row). option_map (noise_key r) window) o) (HoldsNoise t)
    by_blank window None is = tt
    by_blank None (Some r) is = tt
    by_blank (Some w) (Some r) is = is
