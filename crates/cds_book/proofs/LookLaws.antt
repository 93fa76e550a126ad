-- What look-ups answer, by what is held under a name.
use Rattle.std.proofs.Common.{◌≡◌, ◌∙◌, ◌<◌, ℕ, List, [], length, get_or, sym, map, Option, Some, None, option_map, unwrap_or, Vec, Global, ap, subst, refl}
use Rattle.std.specs.Option.{option_and_then}
use Rattle.std.specs.Prelude.{slice_get}
use Rattle.std.proofs.lemmas.Option.{slice_get-get_or}
use Rattle.std.proofs.Math.ListN.{get_or-map}
use Rattle.std.proofs.lemmas.Simd.{map-map}
use Rattle.cds_trace.specs.Signal.{Signal}
use Rattle.cds_base.specs.Named.{named, AreRising}
use Rattle.cds_base.proofs.NamedLaws.{named-map, named-All}
use Rattle.cds_book.specs.Held.{HeldTraces, HeldMethod, HeldSequence, held_name, traces_shown, method_shown, sequence_shown, tables_held, IsHeld}
use Rattle.cds_book.specs.Kept.{IsTables, IsTraceEntry, IsMethodEntry, IsSequenceEntry}
use Rattle.cds_book.specs.Tables.{NamedTraces, NamedMethod, NamedSequence, TablesState, sequence_named, sequence_of, signatures_of, TablesValue, numbered, traces_named, method_named, trace_of, trace_versions_of, signals_of, draft_of, method_of, method_versions_of, texts_of}
use Rattle.cds_book.specs.declared.entry.MethodTexts.{MethodTexts}
use Rattle.cds_book.specs.declared.entry.SignedSequence.{SignedSequence}
use Rattle.cds_book.specs.declared.tables.Tables.TheInside.{Inside}

-- look-ups by what stands under a trace name
module _ (t : TablesState) (name : List ℕ) (found : Option NamedTraces) (is : traces_named t name ≡ found) where
  pub trace_of-found : (version : ℕ) → trace_of t name version ≡ option_and_then (λ entry. numbered entry.versions version) found
  unfolding trace_of
  trace_of-found version = ap (option_and_then (λ (entry : NamedTraces). numbered entry.versions version)) is

  pub trace_versions_of-found : trace_versions_of t name ≡ option_map (λ entry. length entry.versions) found
  unfolding trace_versions_of
  trace_versions_of-found = ap (option_map (λ (entry : NamedTraces). length entry.versions)) is

  pub signals_of-found : signals_of t name ≡ unwrap_or (option_map (λ entry. entry.versions) found) []
  unfolding signals_of
  signals_of-found = ap (λ (o : Option NamedTraces). unwrap_or (option_map (λ entry. entry.versions) o) []) is

-- look-ups by what stands under a method's name
module _ (t : TablesState) (name : List ℕ) (found : Option NamedMethod) (is : method_named t name ≡ found) where
  pub draft_of-found : draft_of t name ≡ option_map (λ entry. entry.draft) found
  unfolding draft_of
  draft_of-found = ap (option_map (λ (entry : NamedMethod). entry.draft)) is

  pub method_of-found : (version : ℕ) → method_of t name version ≡ option_and_then (λ entry. numbered entry.versions version) found
  unfolding method_of
  method_of-found version = ap (option_and_then (λ (entry : NamedMethod). numbered entry.versions version)) is

  pub method_versions_of-found : method_versions_of t name ≡ option_map (λ entry. length entry.versions) found
  unfolding method_versions_of
  method_versions_of-found = ap (option_map (λ (entry : NamedMethod). length entry.versions)) is

  pub texts_of-found : texts_of t name ≡ unwrap_or (option_map (λ entry. entry.versions) found) []
  unfolding texts_of
  texts_of-found = ap (λ (o : Option NamedMethod). unwrap_or (option_map (λ entry. entry.versions) o) []) is

-- look-ups by what stands under a sequence's name
module _ (t : TablesState) (name : List ℕ) (found : Option NamedSequence) (is : sequence_named t name ≡ found) where
  pub sequence_of-found : sequence_of t name ≡ option_map (λ entry. entry.sequence) found
  unfolding sequence_of
  sequence_of-found = ap (option_map (λ (entry : NamedSequence). entry.sequence)) is

  pub signatures_of-found : signatures_of t name ≡ unwrap_or (option_map (λ entry. entry.signed) found) []
  unfolding signatures_of
  signatures_of-found = ap (λ (o : Option NamedSequence). unwrap_or (option_map (λ entry. entry.signed) o) []) is

-- the names that are held rise
pub rising_traces : (a : Inside) → IsHeld a → AreRising (map held_name a.traces.entries.items)
rising_traces a held = subst AreRising (map-map (λ (e : NamedTraces). e.name) traces_shown a.traces.entries.items) held.tables.traces.names

pub rising_methods : (a : Inside) → IsHeld a → AreRising (map held_name a.methods.entries.items)
rising_methods a held = subst AreRising (map-map (λ (e : NamedMethod). e.name) method_shown a.methods.entries.items) held.tables.methods.names

pub rising_sequences : (a : Inside) → IsHeld a → AreRising (map held_name a.sequences.entries.items)
rising_sequences a held = subst AreRising (map-map (λ (e : NamedSequence). e.name) sequence_shown a.sequences.entries.items) held.tables.sequences.names

-- what is held under a trace name, where a search of the list ended
module _ (a : Inside) (v : TablesValue) (view_is : tables_held a ≡ v) (name : List ℕ) where
  -- the entry is seen as what stands under the name
  pub traces_named-held : traces_named v.state name ≡ option_map traces_shown (named held_name a.traces.entries.items name)
  traces_named-held = subst (λ (w : TablesValue). traces_named w.state name ≡ option_map traces_shown (named held_name a.traces.entries.items name)) view_is
      (named-map traces_shown (λ (e : NamedTraces). e.name) a.traces.entries.items name)

  pub method_named-held : method_named v.state name ≡ option_map method_shown (named held_name a.methods.entries.items name)
  method_named-held = subst (λ (w : TablesValue). method_named w.state name ≡ option_map method_shown (named held_name a.methods.entries.items name)) view_is
      (named-map method_shown (λ (e : NamedMethod). e.name) a.methods.entries.items name)

  pub sequence_named-held : sequence_named v.state name ≡ option_map sequence_shown (named held_name a.sequences.entries.items name)
  sequence_named-held = subst (λ (w : TablesValue). sequence_named w.state name ≡ option_map sequence_shown (named held_name a.sequences.entries.items name)) view_is
      (named-map sequence_shown (λ (e : NamedSequence). e.name) a.sequences.entries.items name)

  -- there is none
  pub traces_named-none : None ≡ option_map (λ (e : HeldTraces). e.value) (named held_name a.traces.entries.items name) → traces_named v.state name ≡ None
  traces_named-none none = traces_named-held ∙ by_found (named held_name a.traces.entries.items name) none
    where
      by_found : (found : Option HeldTraces) → None ≡ option_map (λ (e : HeldTraces). e.value) found → option_map traces_shown found ≡ None
      by_found None is = refl
      by_found (Some e) is = cc

  pub method_named-none : None ≡ option_map (λ (e : HeldMethod). e.value) (named held_name a.methods.entries.items name) → method_named v.state name ≡ None
  method_named-none none = method_named-held ∙ by_found (named held_name a.methods.entries.items name) none
    where
      by_found : (found : Option HeldMethod) → None ≡ option_map (λ (e : HeldMethod). e.value) found → option_map method_shown found ≡ None
      by_found None is = refl
      by_found (Some e) is = cc

  pub sequence_named-none : None ≡ option_map (λ (e : HeldSequence). e.value) (named held_name a.sequences.entries.items name) → sequence_named v.state name ≡ None
  sequence_named-none none = sequence_named-held ∙ by_found (named held_name a.sequences.entries.items name) none
    where
      by_found : (found : Option HeldSequence) → None ≡ option_map (λ (e : HeldSequence). e.value) found → option_map sequence_shown found ≡ None
      by_found None is = refl
      by_found (Some e) is = cc

  -- there is one, with these versions
  pub traces_named-some : (versions : Vec Signal Global) → Some versions ≡ option_map (λ (e : HeldTraces). e.value) (named held_name a.traces.entries.items name)
      → (n : List ℕ) × (traces_named v.state name ≡ Some (record { name = n; versions = versions.items }))
  traces_named-some versions some = by_found (named held_name a.traces.entries.items name) some traces_named-held
    where
      by_found : (found : Option HeldTraces) → Some versions ≡ option_map (λ (e : HeldTraces). e.value) found → traces_named v.state name ≡ option_map traces_shown found
          → (n : List ℕ) × (traces_named v.state name ≡ Some (record { name = n; versions = versions.items }))
      by_found None is same = cc
      by_found (Some e) is same = (e.name, let one : versions ≡ e.value = cc in rw one same)

  pub method_named-some : (texts : MethodTexts) → Some texts ≡ option_map (λ (e : HeldMethod). e.value) (named held_name a.methods.entries.items name)
      → (n : List ℕ) × (method_named v.state name ≡ Some (record { name = n; draft = texts.draft; versions = texts.versions.items }))
  method_named-some texts some = by_found (named held_name a.methods.entries.items name) some method_named-held
    where
      by_found : (found : Option HeldMethod) → Some texts ≡ option_map (λ (e : HeldMethod). e.value) found → method_named v.state name ≡ option_map method_shown found
          → (n : List ℕ) × (method_named v.state name ≡ Some (record { name = n; draft = texts.draft; versions = texts.versions.items }))
      by_found None is same = cc
      by_found (Some e) is same = (e.name, let one : texts ≡ e.value = cc in rw one same)

  pub sequence_named-some : (kept : SignedSequence) → Some kept ≡ option_map (λ (e : HeldSequence). e.value) (named held_name a.sequences.entries.items name)
      → (n : List ℕ) × (sequence_named v.state name ≡ Some (record { name = n; sequence = kept.sequence; signed = kept.signed.items }))
  sequence_named-some kept some = by_found (named held_name a.sequences.entries.items name) some sequence_named-held
    where
      by_found : (found : Option HeldSequence) → Some kept ≡ option_map (λ (e : HeldSequence). e.value) found → sequence_named v.state name ≡ option_map sequence_shown found
          → (n : List ℕ) × (sequence_named v.state name ≡ Some (record { name = n; sequence = kept.sequence; signed = kept.signed.items }))
      by_found None is same = cc
      by_found (Some e) is same = (e.name, let one : kept ≡ e.value = cc in rw one same)

  -- and it keeps the rules of entries
  pub IsTraceEntry-found : IsHeld a → (entry : NamedTraces) → traces_named v.state name ≡ Some entry → IsTraceEntry entry
  IsTraceEntry-found held entry is = named-All (λ (e : NamedTraces). e.name) IsTraceEntry v.state.traces name entry
      (subst (λ (w : TablesValue). IsTables w.state) view_is held.tables).traces.each is

  pub IsMethodEntry-found : IsHeld a → (entry : NamedMethod) → method_named v.state name ≡ Some entry → IsMethodEntry entry
  IsMethodEntry-found held entry is = named-All (λ (e : NamedMethod). e.name) IsMethodEntry v.state.methods name entry
      (subst (λ (w : TablesValue). IsTables w.state) view_is held.tables).methods.each is

  pub IsSequenceEntry-found : IsHeld a → (entry : NamedSequence) → sequence_named v.state name ≡ Some entry → IsSequenceEntry entry
  IsSequenceEntry-found held entry is = named-All (λ (e : NamedSequence). e.name) IsSequenceEntry v.state.sequences name entry
      (subst (λ (w : TablesValue). IsTables w.state) view_is held.tables).sequences.each is

-- the name of what is held at a place
pub name_at-held : (a : Inside) (v : TablesValue) → tables_held a ≡ v → (place : ℕ) (r : HeldSequence) → place < length v.state.sequences → r ≡ get_or a.sequences.entries.items place r
    → option_map (λ (e : NamedSequence). e.name) (slice_get v.state.sequences place) ≡ Some r.name
name_at-held a v view_is place r within is =
    let shown : map sequence_shown a.sequences.entries.items ≡ v.state.sequences = ap (λ (w : TablesValue). w.state.sequences) view_is in
    let there : slice_get v.state.sequences place ≡ Some (sequence_shown r) =
    slice_get-get_or v.state.sequences place (sequence_shown r) within
    ∙ ap Some (ap (λ (es : List NamedSequence). get_or es place (sequence_shown r)) (sym shown) ∙ get_or-map sequence_shown a.sequences.entries.items place r ∙ ap sequence_shown (sym is)) in
    ap (option_map (λ (e : NamedSequence). e.name)) there
