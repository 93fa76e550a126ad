-- What is read of the tables after a change, from what was there and what the change puts.
use Rattle.std.proofs.Common.{◌≡◌, ◌∙◌, ℕ, ◌+◌, true, false, inl, inr, List, [], ◌∷◌, ◌++◌, length, Option, Some, None, option_map, unwrap_or, refl, sym, ap, subst, arith}
use Rattle.std.specs.Prelude.{◌≢◌, not}
use Rattle.std.specs.Str.{bytes_eq}
use Rattle.std.specs.Option.{option_and_then}
use Rattle.std.proofs.lemmas.Bool.{cases_Bool, cases_eq}
use Rattle.std.proofs.lemmas.Slice.Eq.{bytes_eq-Decides}
use Rattle.cds_base.proofs.NamedLaws.{bytes_eq-self}
use Rattle.cds_trace.specs.Signal.{Signal}
use Rattle.cds_sign.specs.declared.command.Change.{Change}
use Rattle.cds_sign.specs.declared.command.Change.TheVariants as change
use Rattle.cds_book.specs.Plan.{applied, carried, method_changed, trace_changed, with_frozen, with_method}
use Rattle.cds_book.specs.Tables.{NamedTraces, NamedMethod, TablesState, numbered, draft_of, method_named, method_of, signals_of, texts_of, trace_of, traces_named}
use Rattle.cds_book.proofs.MethodLaws.{texts_of-with}
use Rattle.cds_book.proofs.OtherLaws.{other_methods, other_traces}
use Rattle.cds_book.proofs.NumberLaws.{numbered-other, numbered-past, numbered-push}
use Rattle.cds_book.proofs.TraceLaws.{signals_of-with}

-- a version of a name is one of the list of its versions
trace_of-numbered : (t : TablesState) (name : List ℕ) (version : ℕ) → trace_of t name version ≡ numbered (signals_of t name) version
unfolding trace_of signals_of
trace_of-numbered t name version = by_found (traces_named t name)
  where
    by_found : (found : Option NamedTraces) → option_and_then (λ (e : NamedTraces). numbered e.versions version) found ≡ numbered (unwrap_or (option_map (λ (e : NamedTraces). e.versions) found) []) version
    by_found None = elim (cases_eq version 0) [ inl zero ↦ rw zero refl | inr some ↦ sym (numbered-past [] version (omega arith)) ]
    by_found (Some e) = refl

method_of-numbered : (t : TablesState) (name : List ℕ) (version : ℕ) → method_of t name version ≡ numbered (texts_of t name) version
unfolding method_of texts_of
method_of-numbered t name version = by_found (method_named t name)
  where
    by_found : (found : Option NamedMethod) → option_and_then (λ (e : NamedMethod). numbered e.versions version) found ≡ numbered (unwrap_or (option_map (λ (e : NamedMethod). e.versions) found) []) version
    by_found None = elim (cases_eq version 0) [ inl zero ↦ rw zero refl | inr some ↦ sym (numbered-past [] version (omega arith)) ]
    by_found (Some e) = refl

-- a change leaves the versions of each trace that it doesn't change
pub trace_of-left : (t : TablesState) (c : Change) (name : List ℕ) (version : ℕ) → Some name ≢ trace_changed c → trace_of (applied t c) name version ≡ trace_of t name version
unfolding applied signals_of
trace_of-left t c name version differs =
    trace_of-numbered (applied t c) name version ∙ ap (λ (xs : List Signal). numbered xs version) (other_traces t c name differs) ∙ sym (trace_of-numbered t name version)

-- and those of each method that it doesn't change
pub method_of-left : (t : TablesState) (c : Change) (name : List ℕ) (version : ℕ) → Some name ≢ method_changed c → method_of (applied t c) name version ≡ method_of t name version
unfolding applied texts_of
method_of-left t c name version differs =
    method_of-numbered (applied t c) name version ∙ ap (λ (xs : List (List ℕ)). numbered xs version) (other_methods t c name differs).1 ∙ sym (method_of-numbered t name version)

-- names that are two are no one name
pub differs-name : (put name : List ℕ) → not (bytes_eq put name) ≡ true → Some name ≢ Some put
differs-name put name differs is =
    let one : put ≡ name = cc in
    let same : bytes_eq put name ≡ true = subst (λ n. bytes_eq put n ≡ true) one (bytes_eq-self put) in
    let contrary : false ≡ true = ap not (sym same) ∙ differs in
    cc

-- a change that puts no trace leaves all traces
no_trace : (c : Change) (name : List ℕ) → ((put : List ℕ) (signal : Signal) → c ≡ change.Trace put signal → ⊥) → Some name ≢ trace_changed c
no_trace (change.Trace put signal) name none = absurd (none put signal refl)
no_trace (change.Draft put text) name none = λ is. cc
no_trace (change.Freeze put version) name none = λ is. cc
no_trace (change.Sequence put edition method version standards rows) name none = λ is. cc
no_trace (change.Events put edition row events) name none = λ is. cc
no_trace (change.Rebind put edition version) name none = λ is. cc
no_trace (change.Sign sequence number basis moment put meaning text) name none = λ is. cc

pub trace_of-kept : (t : TablesState) (c : Change) (name : List ℕ) (version : ℕ) → ((put : List ℕ) (signal : Signal) → c ≡ change.Trace put signal → ⊥) → trace_of (applied t c) name version ≡ trace_of t name version
trace_of-kept t c name version none = trace_of-left t c name version (no_trace c name none)

-- a draft leaves the versions of its method
texts-draft : (t : TablesState) (put text name : List ℕ) → texts_of (with_method t put text (texts_of t put)) name ≡ texts_of t name
texts-draft t put text name = elim (cases_Bool (bytes_eq put name)) [
  | inl same ↦
      let one : put ≡ name = (bytes_eq-Decides put name).0 same in
      subst (λ n. texts_of (with_method t put text (texts_of t put)) n ≡ texts_of t n) one (texts_of-with t put text (texts_of t put))
  | inr other ↦ (other_methods t (change.Draft put text) name (differs-name put name (ap not other))).1
]

-- so each change but a freeze leaves the versions of all methods
texts-kept : (t : TablesState) (c : Change) (name : List ℕ) → ((put : List ℕ) (number : ℕ) → c ≡ change.Freeze put number → ⊥) → texts_of (carried t c) name ≡ texts_of t name
texts-kept t (change.Trace put signal) name none = (other_methods t (change.Trace put signal) name (λ is. cc)).1
texts-kept t (change.Draft put text) name none = texts-draft t put text name
texts-kept t (change.Freeze put version) name none = absurd (none put version refl)
texts-kept t (change.Sequence put edition method version standards rows) name none = (other_methods t (change.Sequence put edition method version standards rows) name (λ is. cc)).1
texts-kept t (change.Events put edition row events) name none = (other_methods t (change.Events put edition row events) name (λ is. cc)).1
texts-kept t (change.Rebind put edition version) name none = (other_methods t (change.Rebind put edition version) name (λ is. cc)).1
texts-kept t (change.Sign sequence number basis moment put meaning text) name none = (other_methods t (change.Sign sequence number basis moment put meaning text) name (λ is. cc)).1

pub method_of-kept : (t : TablesState) (c : Change) (name : List ℕ) (version : ℕ) → ((put : List ℕ) (number : ℕ) → c ≡ change.Freeze put number → ⊥) → method_of (applied t c) name version ≡ method_of t name version
unfolding applied texts_of
method_of-kept t c name version none =
    method_of-numbered (applied t c) name version ∙ ap (λ (xs : List (List ℕ)). numbered xs version) (texts-kept t c name none) ∙ sym (method_of-numbered t name version)

module _ (t : TablesState) (name : List ℕ) (signal : Signal) where
  -- the versions of a trace that is put
  signals-put : signals_of (applied t (change.Trace name signal)) name ≡ signals_of t name ++ signal ∷ []
  unfolding applied signals_of
  signals-put = signals_of-with t name (signals_of t name ++ signal ∷ [])

  -- the next one is what was put, and the others stay
  pub trace_of-next : (version : ℕ) → version ≡ length (signals_of t name) + 1 → trace_of (applied t (change.Trace name signal)) name version ≡ Some signal
  trace_of-next version next =
      trace_of-numbered (applied t (change.Trace name signal)) name version ∙ ap (λ (xs : List Signal). numbered xs version) signals-put
      ∙ ap (numbered (signals_of t name ++ signal ∷ [])) next ∙ numbered-push (signals_of t name) signal

  pub trace_of-others : (version : ℕ) → version ≢ length (signals_of t name) + 1 → trace_of (applied t (change.Trace name signal)) name version ≡ trace_of t name version
  trace_of-others version differs =
      trace_of-numbered (applied t (change.Trace name signal)) name version ∙ ap (λ (xs : List Signal). numbered xs version) signals-put
      ∙ numbered-other (signals_of t name) signal version differs ∙ sym (trace_of-numbered t name version)

module _ (t : TablesState) (name : List ℕ) (number version : ℕ) where
  method_of-frozen : method_of (applied t (change.Freeze name number)) name version ≡ numbered (texts_of (with_frozen t name (draft_of t name)) name) version
  unfolding applied texts_of
  method_of-frozen = method_of-numbered (applied t (change.Freeze name number)) name version

  -- the next version is the draft, and the others stay
  pub method_of-next : version ≡ length (texts_of t name) + 1 → method_of (applied t (change.Freeze name number)) name version ≡ draft_of t name
  method_of-next next = method_of-frozen ∙ by_draft (draft_of t name)
    where
      by_draft : (draft : Option (List ℕ)) → numbered (texts_of (with_frozen t name draft) name) version ≡ draft
      by_draft None = numbered-past (texts_of t name) version (omega (arith, next))
      by_draft (Some d) =
          ap (λ (xs : List (List ℕ)). numbered xs version) (texts_of-with t name d (texts_of t name ++ d ∷ [])) ∙ ap (numbered (texts_of t name ++ d ∷ [])) next ∙ numbered-push (texts_of t name) d

  pub method_of-others : version ≢ length (texts_of t name) + 1 → method_of (applied t (change.Freeze name number)) name version ≡ method_of t name version
  method_of-others differs = method_of-frozen ∙ by_draft (draft_of t name) ∙ sym (method_of-numbered t name version)
    where
      by_draft : (draft : Option (List ℕ)) → numbered (texts_of (with_frozen t name draft) name) version ≡ numbered (texts_of t name) version
      by_draft None = refl
      by_draft (Some d) = ap (λ (xs : List (List ℕ)). numbered xs version) (texts_of-with t name d (texts_of t name ++ d ∷ [])) ∙ numbered-other (texts_of t name) d version differs
