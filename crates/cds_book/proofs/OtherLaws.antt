-- What stands under other names than that of a change stays what it was.
use Rattle.std.proofs.Common.{◌≡◌, ◌∙◌, ℕ, false, inl, inr, List, [], ◌∷◌, ◌++◌, Option, Some, None, refl, sym, ap}
use Rattle.std.specs.Prelude.{◌≢◌}
use Rattle.std.specs.Str.{bytes_eq}
use Rattle.std.proofs.lemmas.Bool.{cases_Bool}
use Rattle.std.proofs.lemmas.Slice.Eq.{bytes_eq-Decides}
use Rattle.cds_trace.specs.Signal.{Signal}
use Rattle.cds_book.specs.Plan.{carried, with_signals, with_method, with_frozen, trace_changed, method_changed}
use Rattle.cds_book.specs.Tables.{NamedTraces, NamedMethod, TablesState, method_named, signals_of, draft_of, texts_of}
use Rattle.cds_sign.specs.declared.command.Change.{Change}
use Rattle.cds_sign.specs.declared.command.Change.TheVariants as change
use Rattle.cds_base.specs.Named.{named}
use Rattle.cds_base.proofs.NamedLaws.{named-placed_other}
use Rattle.cds_book.proofs.LookLaws.{signals_of-found, draft_of-found, texts_of-found}
use Rattle.cds_book.proofs.TraceLaws.{trace_name}
use Rattle.cds_book.proofs.MethodLaws.{method_name}
use Rattle.cds_book.proofs.StayLaws.{leaves-sequence, leaves-events, leaves-rebind, leaves-sign}

-- names that are two don't pass the test
pub bytes_eq-other : (put name : List ℕ) → name ≢ put → bytes_eq put name ≡ false
bytes_eq-other put name differs = elim (cases_Bool (bytes_eq put name)) [
  | inl same ↦ absurd (differs (sym ((bytes_eq-Decides put name).0 same)))
  | inr other ↦ other
]

-- a trace that is put leaves other traces
signals_of-other : (t : TablesState) (put name : List ℕ) (versions : List Signal) → name ≢ put → signals_of (with_signals t put versions) name ≡ signals_of t name
signals_of-other t put name versions differs =
    let entry : NamedTraces = record { name = put; versions = versions } in
    signals_of-found (with_signals t put versions) name _ (named-placed_other trace_name t.traces entry name (bytes_eq-other put name differs)) ∙ sym (signals_of-found t name _ refl)

-- the texts under this name are the same
abbrev pub AreSameTexts : TablesState → TablesState → List ℕ → Type 0
AreSameTexts s t name = (draft_of s name ≡ draft_of t name) × (texts_of s name ≡ texts_of t name)

-- a method that is put leaves other methods
texts-other : (t : TablesState) (put name draft : List ℕ) (versions : List (List ℕ)) → name ≢ put → AreSameTexts (with_method t put draft versions) t name
texts-other t put name draft versions differs =
    let entry : NamedMethod = record { name = put; draft = draft; versions = versions } in
    let same : method_named (with_method t put draft versions) name ≡ method_named t name = named-placed_other method_name t.methods entry name (bytes_eq-other put name differs) in (
      draft_of-found (with_method t put draft versions) name _ same ∙ sym (draft_of-found t name _ refl),
      texts_of-found (with_method t put draft versions) name _ same ∙ sym (texts_of-found t name _ refl),
    )

-- so does a freeze
texts-frozen : (t : TablesState) (put name : List ℕ) (draft : Option (List ℕ)) → name ≢ put → AreSameTexts (with_frozen t put draft) t name
texts-frozen t put name None differs = (refl, refl)
texts-frozen t put name (Some draft) differs = texts-other t put name draft (texts_of t put ++ draft ∷ []) differs

-- tables with the same lists of traces, or of methods, have the same under each name
signals_of-same : (s t : TablesState) (name : List ℕ) → s.traces ≡ t.traces → signals_of s name ≡ signals_of t name
signals_of-same s t name same = signals_of-found s name _ (ap (λ ts. named trace_name ts name) same) ∙ sym (signals_of-found t name _ refl)

texts-same : (s t : TablesState) (name : List ℕ) → s.methods ≡ t.methods → AreSameTexts s t name
texts-same s t name same =
    let one : method_named s name ≡ method_named t name = ap (λ ms. named method_name ms name) same in (
      draft_of-found s name _ one ∙ sym (draft_of-found t name _ refl),
      texts_of-found s name _ one ∙ sym (texts_of-found t name _ refl),
    )

-- a freeze leaves all traces
traces-frozen : (t : TablesState) (put : List ℕ) (draft : Option (List ℕ)) → (with_frozen t put draft).traces ≡ t.traces
traces-frozen t put None = refl
traces-frozen t put (Some draft) = refl

-- a name is another than the one that is changed
differs-some : (put name : List ℕ) → Some name ≢ Some put → name ≢ put
differs-some put name differs = λ same. differs (ap Some same)

-- a change leaves the versions of each trace that it doesn't change
pub other_traces : (t : TablesState) (c : Change) (name : List ℕ) → Some name ≢ trace_changed c → signals_of (carried t c) name ≡ signals_of t name
other_traces t (change.Trace put signal) name differs = signals_of-other t put name (signals_of t put ++ signal ∷ []) (differs-some put name differs)
other_traces t (change.Draft put text) name differs = signals_of-same (with_method t put text (texts_of t put)) t name refl
other_traces t (change.Freeze put version) name differs = signals_of-same (with_frozen t put (draft_of t put)) t name (traces-frozen t put (draft_of t put))
other_traces t (change.Sequence put edition method bound standards rows) name differs = signals_of-same (carried t (change.Sequence put edition method bound standards rows)) t name (leaves-sequence t put edition method bound standards rows).0
other_traces t (change.Events put edition n events) name differs = signals_of-same (carried t (change.Events put edition n events)) t name (leaves-events t put edition n events).0
other_traces t (change.Rebind put edition bound) name differs = signals_of-same (carried t (change.Rebind put edition bound)) t name (leaves-rebind t put edition bound).0
other_traces t (change.Sign sequence k basis moment put meaning says) name differs = signals_of-same (carried t (change.Sign sequence k basis moment put meaning says)) t name (leaves-sign t sequence k basis moment put meaning says).0

-- and the draft and the versions of each method that it doesn't change
pub other_methods : (t : TablesState) (c : Change) (name : List ℕ) → Some name ≢ method_changed c → AreSameTexts (carried t c) t name
other_methods t (change.Trace put signal) name differs = texts-same (with_signals t put (signals_of t put ++ signal ∷ [])) t name refl
other_methods t (change.Draft put text) name differs = texts-other t put name text (texts_of t put) (differs-some put name differs)
other_methods t (change.Freeze put version) name differs = texts-frozen t put name (draft_of t put) (differs-some put name differs)
other_methods t (change.Sequence put edition method bound standards rows) name differs = texts-same (carried t (change.Sequence put edition method bound standards rows)) t name (leaves-sequence t put edition method bound standards rows).1
other_methods t (change.Events put edition n events) name differs = texts-same (carried t (change.Events put edition n events)) t name (leaves-events t put edition n events).1
other_methods t (change.Rebind put edition bound) name differs = texts-same (carried t (change.Rebind put edition bound)) t name (leaves-rebind t put edition bound).1
other_methods t (change.Sign sequence k basis moment put meaning says) name differs = texts-same (carried t (change.Sign sequence k basis moment put meaning says)) t name (leaves-sign t sequence k basis moment put meaning says).1
