-- What is reported of a sequence is what the tables and a graph that stands for them hold.
use Rattle.std.proofs.Common.{◌≡◌, ◌∙◌, ◌∷◌, [], ℕ, List, Option, Some, None, option_map, length, refl, sym, ap, ◌≤◌}
use Rattle.std.specs.List.{filter_map, cons_option}
use Rattle.std.specs.Prelude.{unwrap_or}
use Rattle.std.proofs.lemmas.List.{length-map}
use Rattle.cds_book.proofs.ContentLaws.{entry-kept}
use Rattle.cds_book.specs.Kept.{IsTables}
use Rattle.cds_book.specs.Inputs.{bindings_of, inputs_in, inputs_by, inputs_of, row_resolved}
use Rattle.cds_book.specs.Tables.{TablesState, sequence_of}
use Rattle.cds_graph.specs.Graph.{Kept}
use Rattle.cds_graph.specs.GraphLooks.{inputs_named, fields_named, results_named}
use Rattle.cds_graph.specs.Recorded.{fields_bound}
use Rattle.cds_graph.specs.Results.{eval, results_of}
use Rattle.cds_rules.specs.Fields.{Fields}
use Rattle.cds_sign.specs.declared.inputs.Inputs.{Inputs}
use Rattle.cds_sign.specs.declared.limits.TheConstants.{MOST_ROWS}
use Rattle.cds_sign.specs.declared.sequence.Sequence.{Sequence}
use Rattle.cds_report.specs.Reported.{listed_report, reported_in, reported_of}
use Rattle.cds_report.specs.Shown.{kept_results, listed_kept, listed_named, no_results}

-- what is given of each name, where one gives what the other does
same-given : {Y : Type 0} (one other : List ℕ → Option Y) → ((name : List ℕ) → one name ≡ other name) →
    (names : List (List ℕ)) → filter_map one names ≡ filter_map other names
same-given one other same [] = refl
same-given one other same (name ∷ names) =
    ap (λ y. cons_option y (filter_map one names)) (same name)
    ∙ ap (cons_option (other name)) (same-given one other same names)

-- the inputs of a sequence that is there
inputs-there : (t : TablesState) (name : List ℕ) (s : Sequence) → sequence_of t name ≡ Some s →
    inputs_of t name ≡ Some (inputs_in (bindings_of t) s)
unfolding inputs_by bindings_of
inputs-there t name s there = ap (option_map (inputs_in (bindings_of t))) there

-- a sequence that is there has inputs
pub has-inputs : (t : TablesState) (g : Kept) (name : List ℕ) (s : Sequence) → inputs_named g name ≡ inputs_of t name →
    sequence_of t name ≡ Some s → inputs_named g name ≡ None → ⊥
has-inputs t g name s inputs there none = let same = sym none ∙ inputs ∙ inputs-there t name s there in cc

-- and a method
pub has-method : (t : TablesState) (g : Kept) (name : List ℕ) (s : Sequence) →
    fields_named g name ≡ option_map (fields_bound t) (inputs_of t name) → sequence_of t name ≡ Some s →
    fields_named g name ≡ None → ⊥
has-method t g name s fields there none =
    let same = sym none ∙ fields ∙ ap (option_map (fields_bound t)) (inputs-there t name s there) in cc

-- it has at most 200 rows
pub few-rows : (t : TablesState) (g : Kept) (name : List ℕ) (s : Sequence) (i : Inputs) → IsTables t →
    inputs_named g name ≡ inputs_of t name → sequence_of t name ≡ Some s → Some i ≡ inputs_named g name →
    length i.rows ≤ MOST_ROWS
unfolding inputs_in
few-rows t g name s i kept inputs there held =
    let same : Some i ≡ Some (inputs_in (bindings_of t) s) = held ∙ inputs ∙ inputs-there t name s there in
    let few = entry-kept t kept name s there in
    let one : i ≡ inputs_in (bindings_of t) s = cc in
    rw (one, length-map s.rows (row_resolved (bindings_of t))) few

-- what is reported, by the parts that are held
pub reported-is : (t : TablesState) (g : Kept) (name : List ℕ) (s : Sequence) (i : Inputs) (f : Fields) →
    ((n : List ℕ) → inputs_named g n ≡ inputs_of t n) →
    fields_named g name ≡ option_map (fields_bound t) (inputs_of t name) →
    results_named g name ≡ results_of t name →
    sequence_of t name ≡ Some s → Some i ≡ inputs_named g name → Some f ≡ fields_named g name →
    reported_of t name ≡ Some (record {
      name = name;
      edition = s.edition;
      basis = s.basis;
      inputs = i;
      listed = listed_kept g s.standards;
      fields = f;
      results = kept_results g name;
    })
unfolding reported_in kept_results
reported-is t g name s i f inputs fields results there held stated =
    let bound = inputs-there t name s there in
    let same : i ≡ inputs_in (bindings_of t) s = some-is (held ∙ inputs name ∙ bound) in
    let method : f ≡ fields_bound t i =
    some-is (stated ∙ fields ∙ ap (option_map (fields_bound t)) (bound ∙ ap Some (sym same))) in
    let found : kept_results g name ≡ eval t i =
    ap (λ r. unwrap_or r no_results) (results ∙ ap (option_map (eval t)) (bound ∙ ap Some (sym same))) in
    let listed : listed_kept g s.standards ≡ filter_map (listed_report t) s.standards =
    same-given (listed_named g) (listed_report t)
    (λ n. ap (option_map (λ (x : Inputs). record { name = n; inputs = x })) (inputs n)) s.standards in
    rw (there, method, found, listed, ← same) refl
  where
    some-is : {A : Type 0} {a b : A} → Some a ≡ Some b → a ≡ b
    some-is {A} {a} {b} h = ap (λ (o : Option A). unwrap_or o a) h
