-- What stays whatever is changed, and the numbers of versions.
use Rattle.std.proofs.Common.{◌≡◌, ◌∙◌, ℕ, ◌+◌, inl, inr, List, [], ◌∷◌, ◌++◌, length, Option, Some, None, option_map, unwrap_or, refl, sym, ap, subst, append-nil}
use Rattle.std.specs.Option.{option_and_then}
use Rattle.std.specs.Str.{bytes_eq}
use Rattle.std.proofs.lemmas.Bool.{cases_Bool}
use Rattle.std.proofs.lemmas.List.{length-append}
use Rattle.std.proofs.lemmas.Slice.Eq.{bytes_eq-Decides}
use Rattle.cds_trace.specs.Signal.{Signal}
use Rattle.cds_base.specs.Named.{named}
use Rattle.cds_book.specs.Plan.{carried, with_signals, with_method, with_frozen, with_changed, with_signature, signature, Accepts}
use Rattle.cds_book.specs.Tables.{NamedTraces, NamedMethod, TablesState, numbered, traces_named, method_named, trace_of, trace_versions_of, signals_of, draft_of, method_of, method_versions_of, texts_of, sequence_of}
use Rattle.cds_base.specs.declared.event.Event.{Event}
use Rattle.cds_sign.specs.declared.command.Change.{Change}
use Rattle.cds_sign.specs.declared.inputs.Inputs.{Inputs}
use Rattle.cds_sign.specs.declared.row.Row.{Row}
use Rattle.cds_sign.specs.declared.sequence.Sequence.{Sequence}
use Rattle.cds_sign.specs.declared.signed.Signed.{Signed}
use Rattle.cds_sign.specs.declared.command.Change.TheVariants as change
use Rattle.cds_base.proofs.NamedLaws.{named-placed, named-placed_other}
use Rattle.cds_book.proofs.NumberLaws.{numbered-append}
use Rattle.cds_book.proofs.LookLaws.{trace_of-found, trace_versions_of-found, method_of-found, method_versions_of-found}
use Rattle.cds_book.proofs.TraceLaws.{trace_name, carried-trace}
use Rattle.cds_book.proofs.MethodLaws.{method_name, method_named-with, carried-draft, carried-freeze, IsNewText-accepted}

-- a version of a trace is one of the versions of its name
signals_of-version : (t : TablesState) (name : List ℕ) (version : ℕ) (signal : Signal) → trace_of t name version ≡ Some signal → numbered (signals_of t name) version ≡ Some signal
unfolding trace_of signals_of
signals_of-version t name version signal = by_found (traces_named t name)
  where
    by_found : (found : Option NamedTraces) → option_and_then (λ (e : NamedTraces). numbered e.versions version) found ≡ Some signal → numbered (unwrap_or (option_map (λ (e : NamedTraces). e.versions) found) []) version ≡ Some signal
    by_found None is = cc
    by_found (Some e) is = is

texts_of-version : (t : TablesState) (name : List ℕ) (version : ℕ) (text : List ℕ) → method_of t name version ≡ Some text → numbered (texts_of t name) version ≡ Some text
unfolding method_of texts_of
texts_of-version t name version text = by_found (method_named t name)
  where
    by_found : (found : Option NamedMethod) → option_and_then (λ (e : NamedMethod). numbered e.versions version) found ≡ Some text → numbered (unwrap_or (option_map (λ (e : NamedMethod). e.versions) found) []) version ≡ Some text
    by_found None is = cc
    by_found (Some e) is = is

-- versions of traces stay when more are put
trace_of-with : (t : TablesState) (put name : List ℕ) (more : List Signal) (version : ℕ) (signal : Signal) → trace_of t name version ≡ Some signal → trace_of (with_signals t put (signals_of t put ++ more)) name version ≡ Some signal
trace_of-with t put name more version signal is =
    let versions = signals_of t put ++ more in
    let entry : NamedTraces = record { name = put; versions = versions } in
    let after = with_signals t put versions in
    elim (cases_Bool (bytes_eq put name)) [
      | inl same ↦
          let one : put ≡ name = (bytes_eq-Decides put name).0 same in
          let found : traces_named after name ≡ Some entry = subst (λ n. traces_named after n ≡ Some entry) one (named-placed trace_name t.traces entry) in
          let was : numbered (signals_of t put) version ≡ Some signal = subst (λ n. numbered (signals_of t n) version ≡ Some signal) (sym one) (signals_of-version t name version signal is) in
          trace_of-found after name (Some entry) found version ∙ numbered-append (signals_of t put) more version signal was
      | inr other ↦
          let found : traces_named after name ≡ traces_named t name = named-placed_other trace_name t.traces entry name other in
          trace_of-found after name (traces_named t name) found version ∙ sym (trace_of-found t name (traces_named t name) refl version) ∙ is
    ]

-- versions of methods stay when more are put
method_of-with : (t : TablesState) (put draft name : List ℕ) (more : List (List ℕ)) (version : ℕ) (text : List ℕ) → method_of t name version ≡ Some text → method_of (with_method t put draft (texts_of t put ++ more)) name version ≡ Some text
method_of-with t put draft name more version text is =
    let versions = texts_of t put ++ more in
    let entry : NamedMethod = record { name = put; draft = draft; versions = versions } in
    let after = with_method t put draft versions in
    elim (cases_Bool (bytes_eq put name)) [
      | inl same ↦
          let one : put ≡ name = (bytes_eq-Decides put name).0 same in
          let found : method_named after name ≡ Some entry = subst (λ n. method_named after n ≡ Some entry) one (method_named-with t put draft versions) in
          let was : numbered (texts_of t put) version ≡ Some text = subst (λ n. numbered (texts_of t n) version ≡ Some text) (sym one) (texts_of-version t name version text is) in
          method_of-found after name (Some entry) found version ∙ numbered-append (texts_of t put) more version text was
      | inr other ↦
          let found : method_named after name ≡ method_named t name = named-placed_other method_name t.methods entry name other in
          method_of-found after name (method_named t name) found version ∙ sym (method_of-found t name (method_named t name) refl version) ∙ is
    ]

-- traces don't look at methods, nor methods at traces
traces-same : (s t : TablesState) (name : List ℕ) (version : ℕ) → s.traces ≡ t.traces → trace_of s name version ≡ trace_of t name version
unfolding trace_of
traces-same s t name version same = ap (λ (es : List NamedTraces). option_and_then (λ (e : NamedTraces). numbered e.versions version) (named trace_name es name)) same

methods-same : (s t : TablesState) (name : List ℕ) (version : ℕ) → s.methods ≡ t.methods → method_of s name version ≡ method_of t name version
unfolding method_of
methods-same s t name version same = ap (λ (es : List NamedMethod). option_and_then (λ (e : NamedMethod). numbered e.versions version) (named method_name es name)) same

-- a freeze without a draft leaves the methods
methods-no_draft : (t : TablesState) (name : List ℕ) (version : ℕ) → draft_of t name ≡ None → (carried t (change.Freeze name version)).methods ≡ t.methods
methods-no_draft t name version none = ap (λ (o : Option (List ℕ)). (with_frozen t name o).methods) none

-- a freeze leaves the traces
traces-freeze : (t : TablesState) (name : List ℕ) (version : ℕ) → (carried t (change.Freeze name version)).traces ≡ t.traces
traces-freeze t name version = by_draft (draft_of t name)
  where
    by_draft : (draft : Option (List ℕ)) → (with_frozen t name draft).traces ≡ t.traces
    by_draft None = refl
    by_draft (Some draft) = refl

-- a sequence that is put or signed leaves the traces and the methods
changed-traces : (t : TablesState) (name : List ℕ) (made : Option Sequence) → (with_changed t name made).traces ≡ t.traces
changed-traces t name None = refl
changed-traces t name (Some s) = refl

changed-methods : (t : TablesState) (name : List ℕ) (made : Option Sequence) → (with_changed t name made).methods ≡ t.methods
changed-methods t name None = refl
changed-methods t name (Some s) = refl

signed-traces : (t : TablesState) (name : List ℕ) (f : Inputs → Signed) (s : Option Sequence) → (with_signature t name f s).traces ≡ t.traces
signed-traces t name f None = refl
signed-traces t name f (Some s) = refl

signed-methods : (t : TablesState) (name : List ℕ) (f : Inputs → Signed) (s : Option Sequence) → (with_signature t name f s).methods ≡ t.methods
signed-methods t name f None = refl
signed-methods t name f (Some s) = refl

-- a change of sequences or of signatures
abbrev pub LeavesVersions : TablesState → Change → Type 0
LeavesVersions t c = ((carried t c).traces ≡ t.traces) × ((carried t c).methods ≡ t.methods)

pub leaves-sequence : (t : TablesState) (name : List ℕ) (edition : ℕ) (method : List ℕ) (version : ℕ) (standards : List (List ℕ)) (rows : List Row) → LeavesVersions t (change.Sequence name edition method version standards rows)
leaves-sequence t name edition method version standards rows = (changed-traces t name _, changed-methods t name _)

pub leaves-events : (t : TablesState) (name : List ℕ) (edition row : ℕ) (events : List Event) → LeavesVersions t (change.Events name edition row events)
leaves-events t name edition row events = (changed-traces t name _, changed-methods t name _)

pub leaves-rebind : (t : TablesState) (name : List ℕ) (edition version : ℕ) → LeavesVersions t (change.Rebind name edition version)
leaves-rebind t name edition version = (changed-traces t name _, changed-methods t name _)

pub leaves-sign : (t : TablesState) (sequence : List ℕ) (number basis moment : ℕ) (name meaning text : List ℕ) → LeavesVersions t (change.Sign sequence number basis moment name meaning text)
leaves-sign t sequence number basis moment name meaning text = (signed-traces t sequence (signature number basis moment name meaning text) (sequence_of t sequence), signed-methods t sequence (signature number basis moment name meaning text) (sequence_of t sequence))

-- whatever is changed, each version of a trace stays
pub trace_of-stays : (t : TablesState) (c : Change) (name : List ℕ) (version : ℕ) (signal : Signal) → trace_of t name version ≡ Some signal → trace_of (carried t c) name version ≡ Some signal
trace_of-stays t (change.Trace put more) name version signal is = rw (carried-trace t put more) (trace_of-with t put name (more ∷ []) version signal is)
trace_of-stays t (change.Draft put text) name version signal is = rw (carried-draft t put text) (traces-same (with_method t put text (texts_of t put)) t name version refl ∙ is)
trace_of-stays t (change.Freeze put number) name version signal is = traces-same (carried t (change.Freeze put number)) t name version (traces-freeze t put number) ∙ is
trace_of-stays t (change.Sequence put edition method bound standards rows) name version signal is = traces-same (carried t (change.Sequence put edition method bound standards rows)) t name version (leaves-sequence t put edition method bound standards rows).0 ∙ is
trace_of-stays t (change.Events put edition n events) name version signal is = traces-same (carried t (change.Events put edition n events)) t name version (leaves-events t put edition n events).0 ∙ is
trace_of-stays t (change.Rebind put edition bound) name version signal is = traces-same (carried t (change.Rebind put edition bound)) t name version (leaves-rebind t put edition bound).0 ∙ is
trace_of-stays t (change.Sign sequence k basis moment put meaning says) name version signal is = traces-same (carried t (change.Sign sequence k basis moment put meaning says)) t name version (leaves-sign t sequence k basis moment put meaning says).0 ∙ is

-- whatever is changed, each version of a method stays
pub method_of-stays : (t : TablesState) (c : Change) (name : List ℕ) (version : ℕ) (text : List ℕ) → method_of t name version ≡ Some text → method_of (carried t c) name version ≡ Some text
method_of-stays t (change.Trace put more) name version text is = rw (carried-trace t put more) (methods-same (with_signals t put (signals_of t put ++ more ∷ [])) t name version refl ∙ is)
method_of-stays t (change.Draft put draft) name version text is =
    rw (carried-draft t put draft) (subst (λ (ts : List (List ℕ)). method_of (with_method t put draft ts) name version ≡ Some text) (append-nil (texts_of t put)) (method_of-with t put draft name [] version text is))
method_of-stays t (change.Sequence put edition method bound standards rows) name version text is = methods-same (carried t (change.Sequence put edition method bound standards rows)) t name version (leaves-sequence t put edition method bound standards rows).1 ∙ is
method_of-stays t (change.Events put edition n events) name version text is = methods-same (carried t (change.Events put edition n events)) t name version (leaves-events t put edition n events).1 ∙ is
method_of-stays t (change.Rebind put edition bound) name version text is = methods-same (carried t (change.Rebind put edition bound)) t name version (leaves-rebind t put edition bound).1 ∙ is
method_of-stays t (change.Sign sequence k basis moment put meaning says) name version text is = methods-same (carried t (change.Sign sequence k basis moment put meaning says)) t name version (leaves-sign t sequence k basis moment put meaning says).1 ∙ is
method_of-stays t (change.Freeze put number) name version text is = by_draft (draft_of t put) refl
  where
    by_draft : (draft : Option (List ℕ)) → draft_of t put ≡ draft → method_of (carried t (change.Freeze put number)) name version ≡ Some text
    by_draft None none = methods-same (carried t (change.Freeze put number)) t name version (methods-no_draft t put number none) ∙ is
    by_draft (Some draft) there = rw (carried-freeze t put number draft there) (method_of-with t put draft name (draft ∷ []) version text is)

-- how many versions a name has is how many versions there are
pub trace_versions_of-signals : (t : TablesState) (name : List ℕ) → unwrap_or (trace_versions_of t name) 0 ≡ length (signals_of t name)
unfolding trace_versions_of signals_of
trace_versions_of-signals t name = by_found (traces_named t name)
  where
    by_found : (found : Option NamedTraces) → unwrap_or (option_map (λ (e : NamedTraces). length e.versions) found) 0 ≡ length (unwrap_or (option_map (λ (e : NamedTraces). e.versions) found) [])
    by_found None = refl
    by_found (Some e) = refl

-- a trace is put as the next version of its name
pub trace_versions_of-carried : (t : TablesState) (name : List ℕ) (signal : Signal) → trace_versions_of (carried t (change.Trace name signal)) name ≡ Some (unwrap_or (trace_versions_of t name) 0 + 1)
trace_versions_of-carried t name signal =
    let versions = signals_of t name ++ signal ∷ [] in
    let entry : NamedTraces = record { name = name; versions = versions } in
    let found = trace_versions_of-found (with_signals t name versions) name (Some entry) (named-placed trace_name t.traces entry) in
    let grown : length versions ≡ unwrap_or (trace_versions_of t name) 0 + 1 = length-append (signals_of t name) (signal ∷ []) ∙ ap (λ n. n + 1) (sym (trace_versions_of-signals t name)) in
    rw (carried-trace t name signal) (found ∙ ap Some grown)

-- a draft is frozen as the version of the number that was named
pub method_versions_of-carried : (t : TablesState) (name : List ℕ) (version : ℕ) → Accepts t (change.Freeze name version) → method_versions_of (carried t (change.Freeze name version)) name ≡ Some version
method_versions_of-carried t name version accepts =
    let new = IsNewText-accepted t name version accepts.accepted in
    let versions = texts_of t name ++ new.draft ∷ [] in
    let found = method_versions_of-found (with_method t name new.draft versions) name _ (method_named-with t name new.draft versions) in
    let grown : length versions ≡ version = length-append (texts_of t name) (new.draft ∷ []) ∙ sym new.next in
    rw (carried-freeze t name version new.draft new.is) (found ∙ ap Some grown)
