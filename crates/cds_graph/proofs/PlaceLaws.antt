-- What stands at a place among the sequences of tables.
use Rattle.std.proofs.Common.{◌≡◌, ◌∙◌, ℕ, ◌+◌, ◌<◌, ◌≤◌, List, [], ◌∷◌, ◌++◌, length, get_or, take, map, Option}
use Rattle.std.proofs.Common.{Some, None}
use Rattle.std.proofs.Common.{option_map, inl, inr, refl, sym, ap, ap₂, subst, arith}
use Rattle.std.specs.Prelude.{All, unwrap_or}
use Rattle.std.proofs.lemmas.List.{get_or-map, get_or_default, length-map, map-append, take-map, take_more}
use Rattle.std.proofs.lemmas.Option.{slice_get_cases}
use Rattle.cds_base.specs.Named.{AreRising}
use Rattle.cds_base.specs.declared.named.Named.{Named}
use Rattle.cds_sign.specs.declared.sequence.Sequence.{Sequence}
use Rattle.cds_sign.specs.declared.inputs.Inputs.{Inputs}
use Rattle.cds_book.specs.Inputs.{bindings_of, inputs_in, inputs_of}
use Rattle.cds_book.specs.Tables.{TablesState, NamedSequence, sequence_at}
use Rattle.cds_book.specs.Kept.{IsTables}
use Rattle.cds_graph.specs.Building.{names_of, KnowsInputs, AreRanged}
use Rattle.cds_graph.specs.declared.noises.HeldKey.{HeldKey}
use Rattle.cds_graph.specs.HeldGraph.{noise_key_shown}
use Rattle.cds_graph.specs.Kept.{KeptSequence, sequence_under, sequence_with}
use Rattle.cds_graph.specs.Keys.{all_inputs}
use Rattle.cds_graph.proofs.NameLaws.{inputs-at}
use Rattle.cds_graph.proofs.RangeLaws.{all-ranged}
use Rattle.cds_graph.proofs.ReadyLaws.{all-known}

-- what holds of each item holds of the one that is read
pub All-read : {X : Type 0} (P : X → Type 0) (xs : List X) (i : ℕ) (x : X) → All P xs → i < length xs →
    x ≡ get_or xs i x → P x
All-read P xs i x all within is = subst P (sym is) (all i x within)

-- a held key that is read is the key at its place
pub key-read : (keys : List HeldKey) (i : ℕ) (k : HeldKey) → i < length keys → k ≡ get_or keys i k →
    noise_key_shown k ≡ get_or (map noise_key_shown keys) i (noise_key_shown k)
key-read keys i k within is = ap noise_key_shown is ∙ sym (get_or-map noise_key_shown keys i k (noise_key_shown k)
    within)

-- and its place is one of a key
pub key-within : (keys : List HeldKey) (i : ℕ) → i < length keys → i < length (map noise_key_shown keys)
key-within keys i within = rw (length-map keys noise_key_shown) within

-- the sequence at a place
record At (t : TablesState) (i : ℕ) (name : List ℕ) : Type 0 where
  entry : NamedSequence
  here : entry ≡ get_or t.sequences i entry
  named : name ≡ entry.name
  inputs : inputs_of t name ≡ Some (inputs_in (bindings_of t) entry.sequence)

-- one more image
map-more : {X Y : Type 0} (f : X → Y) (xs : List X) (i : ℕ) (x : X) → i < length xs → x ≡ get_or xs i x →
    map f (take (i + 1) xs) ≡ map f (take i xs) ++ f x ∷ []
map-more f xs i x within is =
    ap (map f) (take_more xs i x within) ∙ map-append f (take i xs) (get_or xs i x ∷ [])
    ∙ ap (λ y. map f (take i xs) ++ f y ∷ []) (sym is)

-- pairs that are the same have the same first part
pair-first : {A B : Type 0} (a c : A) (b d : B) →
    let one : Option (A × B) = Some (a, b) in let other : Option (A × B) = Some (c, d) in one ≡ other → a ≡ c
pair-first {A} {B} a c b d same = ap (λ (o : Option (A × B)). unwrap_or (option_map (λ (p : A × B). p.0) o) a) same

-- one more name
pub names-more : {V : Type 0} (t : TablesState) (i : ℕ) (name : List ℕ) (s : Sequence) (list : List (Named V))
    (value : V) → Some (name, s) ≡ sequence_at t i → map (λ (e : Named V). e.name) list ≡ take i (names_of t) →
    map (λ (e : Named V). e.name) (list ++ record { name = name; value = value } ∷ []) ≡ take (i + 1) (names_of t)
names-more {V} t i name s list value read so_far = elim (slice_get_cases t.sequences i).1 [
  | inl (x, within, is, here) ↦
      let nm : NamedSequence → List ℕ = λ e. e.name in
      let same : Some (name, s) ≡ Some (x.name, x.sequence) =
      read ∙ ap (option_map (λ (e : NamedSequence). (e.name, e.sequence))) is in
      let one : name ≡ x.name = pair-first name x.name s x.sequence same in
      rw (
        map-append,
        so_far,
        one,
        take-map nm (i + 1) t.sequences,
        map-more nm t.sequences i x within (sym here),
        ← take-map nm i t.sequences,
      ) refl
  | inr (past, is) ↦
      let none : Some (name, s) ≡ None = read ∙ ap (option_map (λ (e : NamedSequence). (e.name, e.sequence))) is in
      cc
]

at-place : (t : TablesState) → IsTables t → (i : ℕ) (name : List ℕ) → i < length (names_of t) →
    name ≡ get_or (names_of t) i name → At t i name
at-place t ready i name within is =
    by_list t.sequences refl (subst (λ n. i < n) (length-map t.sequences (λ (e : NamedSequence). e.name)) within)
  where
    by_list : (xs : List NamedSequence) → t.sequences ≡ xs → i < length t.sequences → At t i name
    by_list [] same few =
        absurd (omega (arith, subst (λ (l : List NamedSequence). i < length l) same few))
    by_list (d ∷ ds) same few =
        let e : NamedSequence = get_or t.sequences i d in
        let here : e ≡ get_or t.sequences i e = get_or_default t.sequences i d e few in
        let named : name ≡ e.name = is ∙ get_or-map (λ (x : NamedSequence). x.name) t.sequences i d name few in
        record {
          entry = e;
          here = here;
          named = named;
          inputs = ap (inputs_of t) named ∙ inputs-at t i e ready.sequences.names few here;
        }

-- the inputs under the name at a place
module _ (t : TablesState) (ready : IsTables t) (i : ℕ) (name : List ℕ) (within : i < length (names_of t))
    (is : name ≡ get_or (names_of t) i name) where
  few : i < length t.sequences
  few = subst (λ n. i < n) (length-map t.sequences (λ (e : NamedSequence). e.name)) within

  -- are there
  pub inputs-none : (o : Option Inputs) → o ≡ inputs_of t name → o ≡ None → ⊥
  inputs-none o same none =
      let there = (at-place t ready i name within is).inputs in cc

  -- and stand behind those of the sequences before
  pub inputs-more : (o : Option Inputs) (inputs : Inputs) (all : List Inputs) → o ≡ inputs_of t name →
      o ≡ Some inputs → all ≡ take i (all_inputs t) → all ++ inputs ∷ [] ≡ take (i + 1) (all_inputs t)
  inputs-more o inputs all same some so_far =
      let at : At t i name = at-place t ready i name within is in
      let f : NamedSequence → Inputs = λ e. inputs_in (bindings_of t) e.sequence in
      let one : Some inputs ≡ Some (f at.entry) = sym some ∙ same ∙ at.inputs in
      let alike : inputs ≡ f at.entry = cc in
      rw (
        take-map f (i + 1) t.sequences,
        map-more f t.sequences i at.entry few at.here,
        ← take-map f i t.sequences,
        so_far,
        alike,
      ) refl

  -- are those that are read at the place
  pub inputs-read : (inputs : Inputs) → inputs ≡ get_or (all_inputs t) i inputs → inputs_of t name ≡ Some inputs
  inputs-read inputs read =
      let at : At t i name = at-place t ready i name within is in
      let f : NamedSequence → Inputs = λ e. inputs_in (bindings_of t) e.sequence in
      at.inputs ∙ ap Some (ap f at.here ∙ sym (read ∙ get_or-map f t.sequences i at.entry inputs few))

  -- name what has keys
  pub inputs-known : (inputs : Inputs) → inputs ≡ get_or (all_inputs t) i inputs → KnowsInputs t inputs
  inputs-known inputs read =
      All-read (KnowsInputs t) (all_inputs t) i inputs (all-known t)
      (rw (length-map t.sequences (λ (e : NamedSequence). inputs_in (bindings_of t) e.sequence)) few) read

  -- and are within their ranges
  pub inputs-ranged : (inputs : Inputs) → inputs ≡ get_or (all_inputs t) i inputs → AreRanged inputs
  inputs-ranged inputs read =
      All-read AreRanged (all_inputs t) i inputs (all-ranged t ready)
      (rw (length-map t.sequences (λ (e : NamedSequence). inputs_in (bindings_of t) e.sequence)) few) read

  -- the sequence with its results stands behind those before
  pub sequence-more : (inputs : Inputs) (entry : KeptSequence) (kept : List KeptSequence) →
      inputs ≡ get_or (all_inputs t) i inputs → entry ≡ sequence_with t name inputs →
      kept ≡ map (sequence_under t) (take i t.sequences) →
      kept ++ entry ∷ [] ≡ map (sequence_under t) (take (i + 1) t.sequences)
  unfolding sequence_under
  sequence-more inputs entry kept read made so_far =
      let at : At t i name = at-place t ready i name within is in
      let f : NamedSequence → Inputs = λ e. inputs_in (bindings_of t) e.sequence in
      let alike : inputs ≡ f at.entry = read ∙ get_or-map f t.sequences i at.entry inputs few ∙ ap f (sym at.here) in
      let one : entry ≡ sequence_with t at.entry.name (f at.entry) = made ∙ ap₂ (sequence_with t) at.named alike in
      ap₂ (λ k e. k ++ e ∷ []) so_far one ∙ sym (map-more (sequence_under t) t.sequences i at.entry few at.here)
