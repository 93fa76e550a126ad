-- What the inputs of a sequence name is there where what the sequences bind is.
use Rattle.std.proofs.Common.{◌≡◌, ◌∙◌, ℕ, zero, suc, ◌-◌, ◌<◌, ◌≤◌, ◌==◌, Bool, true, false, List, [], ◌∷◌, length}
use Rattle.std.proofs.Common.{map, Option, Some, None, option_map, unwrap_or, refl, sym, subst, arith}
use Rattle.std.proofs.Common.{ne_of_gt, true≢false, if◌then◌else◌}
use Rattle.std.specs.Prelude.{All, IsSome, is_some}
use Rattle.std.specs.List.{filter_map, cons_option}
use Rattle.std.proofs.lemmas.Bool.{ne_eqb}
use Rattle.std.specs.Option.{option_and_then}
use Rattle.std.proofs.lemmas.List.Elements.{All-head, All-tail, All-cons, All-nil, All-map, All-weaker}
use Rattle.std.proofs.lemmas.Option.{slice_get-get_or}
use Rattle.cds_base.proofs.NamedLaws.{named-All}
use Rattle.cds_trace.specs.Signal.{Signal}
use Rattle.cds_sign.specs.declared.inputs.Inputs.{Inputs}
use Rattle.cds_sign.specs.declared.inputs.ListedRow.{ListedRow}
use Rattle.cds_sign.specs.declared.row.Row.{Row}
use Rattle.cds_sign.specs.declared.sequence.Sequence.{Sequence}
use Rattle.cds_book.specs.Tables.{TablesState, NamedTraces, NamedMethod, NamedSequence, numbered, traces_named}
use Rattle.cds_book.specs.Tables.{method_named, sequence_named, signals_of, texts_of, trace_of, method_of, sequence_of}
use Rattle.cds_book.specs.Inputs.{bindings_of, resolved, row_resolved, is_standard, row_listed, listed_as}
use Rattle.cds_book.specs.Inputs.{listed_of, inputs_in, inputs_by, inputs_of}
use Rattle.cds_graph.specs.Keys.{all_inputs}
use Rattle.cds_graph.specs.Staying.{HoldsListed, HoldsInputs, Resolves, IsBound, AreBound}

-- a number above 0 isn't 0
not_zero : (number : ℕ) → 0 < number → (number == 0) ≡ false
not_zero number some = ne_eqb number 0 (ne_of_gt some)

-- a number from 1 to the count is that of a version
numbered-within : {X : Type 0} (versions : List X) (number : ℕ) → 0 < number → number ≤ length versions →
    IsSome (numbered versions number)
numbered-within [] number some few = absurd (omega (arith, some, few))
numbered-within (x ∷ xs) number some few =
    rw (not_zero number some, slice_get-get_or (x ∷ xs) (number - 1) x (omega (arith, some, few))) refl

-- the version that is bound is one of those that there are
numbered-bound : {X : Type 0} (versions : List X) (version : ℕ) → Resolves (length versions) version →
    IsSome (numbered versions (resolved (length versions) version))
numbered-bound versions zero bound = numbered-within versions (length versions) (omega (arith, bound.0)) (omega arith)
numbered-bound versions (suc v) bound =
    rw (not_zero (suc v) (omega arith)) (numbered-within versions (suc v) (omega arith) bound.1)

-- no version is in an empty list
numbered-none : (X : Type 0) (number : ℕ) → IsSome (numbered {X = X} [] number) → ⊥
numbered-none X zero is = cc
numbered-none X (suc n) is =
    let none : is_some (numbered {X = X} [] (suc n)) ≡ false = rw (not_zero (suc n) (omega arith)) refl in
    true≢false (sym is ∙ none)

-- a version of a trace is there where it is one of the signals of its name
trace_of-there : (t : TablesState) (name : List ℕ) (version : ℕ) → IsSome (numbered (signals_of t name) version) →
    IsSome (trace_of t name version)
unfolding trace_of signals_of
trace_of-there t name version = by_found (traces_named t name)
  where
    by_found : (found : Option NamedTraces) →
        IsSome (numbered (unwrap_or (option_map (λ (e : NamedTraces). e.versions) found) []) version) →
        IsSome (option_and_then (λ (e : NamedTraces). numbered e.versions version) found)
    by_found None is = absurd (numbered-none Signal version is)
    by_found (Some e) is = is

-- a version of a method is there where it is one of the texts of its name
method_of-there : (t : TablesState) (name : List ℕ) (version : ℕ) → IsSome (numbered (texts_of t name) version) →
    IsSome (method_of t name version)
unfolding method_of texts_of
method_of-there t name version = by_found (method_named t name)
  where
    by_found : (found : Option NamedMethod) →
        IsSome (numbered (unwrap_or (option_map (λ (e : NamedMethod). e.versions) found) []) version) →
        IsSome (option_and_then (λ (e : NamedMethod). numbered e.versions version) found)
    by_found None is = absurd (numbered-none (List ℕ) version is)
    by_found (Some e) is = is

-- the version of a trace that a row binds
trace-bound : (t : TablesState) (name : List ℕ) (version : ℕ) → Resolves (length (signals_of t name)) version →
    IsSome (trace_of t name (resolved (length (signals_of t name)) version))
trace-bound t name version bound = trace_of-there t name _ (numbered-bound (signals_of t name) version bound)

-- the version of a method that a sequence binds
method-bound : (t : TablesState) (name : List ℕ) (version : ℕ) → Resolves (length (texts_of t name)) version →
    IsSome (method_of t name (resolved (length (texts_of t name)) version))
method-bound t name version bound = method_of-there t name _ (numbered-bound (texts_of t name) version bound)

-- the rows of a bound sequence name what is there
rows-there : (t : TablesState) (rows : List Row) →
    All (λ (row : Row). Resolves (length (signals_of t row.trace)) row.version) rows →
    All (λ (row : Row). IsSome (trace_of t row.trace row.version)) (map (row_resolved (bindings_of t)) rows)
unfolding row_resolved bindings_of
rows-there t rows bound =
    All-map (λ (row : Row). IsSome (trace_of t row.trace row.version)) (row_resolved (bindings_of t)) rows
    (All-weaker (λ (row : Row). Resolves (length (signals_of t row.trace)) row.version)
    (λ row. IsSome (trace_of t row.trace (resolved (length (signals_of t row.trace)) row.version)))
    (λ row h. trace-bound t row.trace row.version h) rows bound)

-- and so do its standard rows
standards-there : (t : TablesState) (rows : List Row) →
    All (λ (row : Row). Resolves (length (signals_of t row.trace)) row.version) rows →
    All (λ (row : ListedRow). IsSome (trace_of t row.trace row.version)) (filter_map (row_listed (bindings_of t)) rows)
unfolding row_listed bindings_of
standards-there t [] bound = All-nil (λ (row : ListedRow). IsSome (trace_of t row.trace row.version))
standards-there t (row ∷ rows) bound =
    by_kind (is_standard row.kind) (standards-there t rows (All-tail R row rows bound))
  where
    R : Row → Type 0
    R r = Resolves (length (signals_of t r.trace)) r.version

    there : ListedRow → Type 0
    there r = IsSome (trace_of t r.trace r.version)

    listed : ListedRow
    listed = record {
      trace = row.trace;
      version = resolved (length (signals_of t row.trace)) row.version;
      used = row.used;
      amounts = row.amounts;
      events = row.events;
    }

    by_kind : (b : Bool) → All there (filter_map (row_listed (bindings_of t)) rows) →
        All there (cons_option (if b then Some listed else None) (filter_map (row_listed (bindings_of t)) rows))
    by_kind true later =
        All-cons there listed _ (trace-bound t row.trace row.version (All-head R row rows bound)) later
    by_kind false later = later

-- the sequence of a name is bound
sequence-bound : (t : TablesState) → AreBound t → (name : List ℕ) (s : Sequence) → sequence_of t name ≡ Some s →
    IsBound t s
unfolding sequence_of
sequence-bound t bound name s = by_found (sequence_named t name) refl
  where
    by_found : (found : Option NamedSequence) → sequence_named t name ≡ found →
        option_map (λ (e : NamedSequence). e.sequence) found ≡ Some s → IsBound t s
    by_found None there is = cc
    by_found (Some e) there is =
        let one : e.sequence ≡ s = cc in
        subst (IsBound t) one (named-All (λ (x : NamedSequence). x.name)
        (λ (x : NamedSequence). IsBound t x.sequence) t.sequences name e bound there)

-- what listed sequences name is there
listed-there : (t : TablesState) → AreBound t → (names : List (List ℕ)) →
    All (HoldsListed t) (filter_map (listed_of (bindings_of t)) names)
unfolding listed_of listed_as bindings_of
listed-there t bound [] = All-nil (HoldsListed t)
listed-there t bound (name ∷ names) = by_found (sequence_of t name) refl (listed-there t bound names)
  where
    by_found : (found : Option Sequence) → sequence_of t name ≡ found →
        All (HoldsListed t) (filter_map (listed_of (bindings_of t)) names) →
        All (HoldsListed t) (cons_option (option_map (listed_as (bindings_of t) name) found)
        (filter_map (listed_of (bindings_of t)) names))
    by_found None there later = later
    by_found (Some s) there later =
        let is : IsBound t s = sequence-bound t bound name s there in
        All-cons (HoldsListed t) (listed_as (bindings_of t) name s) _
        (record { method = method-bound t s.method s.version is.method; rows = standards-there t s.rows is.rows })
        later

-- what the inputs of a sequence name is there
pub inputs-there : (t : TablesState) (name : List ℕ) (inputs : Inputs) → AreBound t →
    inputs_of t name ≡ Some inputs → HoldsInputs t inputs
unfolding inputs_by inputs_in bindings_of
inputs-there t name inputs bound = by_found (sequence_of t name) refl
  where
    by_found : (found : Option Sequence) → sequence_of t name ≡ found →
        option_map (inputs_in (bindings_of t)) found ≡ Some inputs → HoldsInputs t inputs
    by_found None there is = cc
    by_found (Some s) there is =
        let one : inputs_in (bindings_of t) s ≡ inputs = cc in
        let all : IsBound t s = sequence-bound t bound name s there in
        subst (HoldsInputs t) one (record {
          method = method-bound t s.method s.version all.method;
          rows = rows-there t s.rows all.rows;
          standards = listed-there t bound s.standards;
        })

-- what the inputs of all sequences name is there
pub all-there : (t : TablesState) → AreBound t → All (HoldsInputs t) (all_inputs t)
unfolding inputs_in bindings_of
all-there t bound =
    All-map (HoldsInputs t) (λ (e : NamedSequence). inputs_in (bindings_of t) e.sequence) t.sequences
    (All-weaker (λ (e : NamedSequence). IsBound t e.sequence)
    (λ (e : NamedSequence). HoldsInputs t (inputs_in (bindings_of t) e.sequence))
    (λ e is. record {
      method = method-bound t e.sequence.method e.sequence.version is.method;
      rows = rows-there t e.sequence.rows is.rows;
      standards = listed-there t bound e.sequence.standards;
    })
    t.sequences bound)
