-- Taking room leaves what the tables hold.
use Rattle.std.proofs.Common.{◌≡◌, ◌∙◌, ℕ, ◌<◌, ◌≤◌, List, [], get_or, set, map, vec_len, vec_capacity, Option, Some, None, option_map, refl, sym, ap, subst, arith, get_or-set_same}
use Rattle.std.specs.Prelude.{IfSome, IsSome}
use Rattle.std.specs.List.{HoldsAt}
use Rattle.std.proofs.Math.Seq.{map-set_same}
use Rattle.std.specs.List.Sorted.{IsStrictlySortedBy}
use Rattle.std.proofs.lemmas.List.Elements.{All-nil}
use Rattle.cds_book.specs.Held.{HeldTraces, HeldMethod, HeldSequence, held_name, traces_shown, method_shown, sequence_shown, room_shown, state_held, tables_held, IsHeld, HasRoom, IsTraceAt, IsMethodAt, IsMethodGap}
use Rattle.cds_book.specs.Kept.{IsTables, IsTraceEntry, IsMethodEntry, IsSequenceEntry, IsBound, AreThere, trace_versions_in_all, samples_in_all, method_versions_in_all, changes_in_all}
use Rattle.cds_base.specs.Named.{StandsAt, IsGapAt}
use Rattle.cds_book.specs.Plan.{sequence_made, Accepts}
use Rattle.cds_book.specs.Raising.{Makes, Signs}
use Rattle.cds_book.specs.Tables.{NamedSequence, TablesState, TablesValue, empty_tables, draft_of, sequence_of}
use Rattle.cds_sign.specs.declared.command.Change.{Change}
use Rattle.cds_sign.specs.declared.command.Change.TheVariants as change
use Rattle.cds_book.specs.declared.room.Taken.{Taken}
use Rattle.cds_book.specs.declared.tables.Tables.TheInside.{Inside}
use Rattle.cds_book.proofs.HeldLaws.{state_eq, entry_eq, method_eq, some_draft}
use Rattle.cds_book.proofs.LookLaws.{method_named-held, draft_of-found, sequence_named-held, sequence_of-found}
use Rattle.cds_book.proofs.AcceptedLaws.{MakesSequence-accepted, MakesSignature-accepted, there-some}
use Rattle.cds_book.proofs.RaiseLaws.{sequence_eq}
use Rattle.cds_base.proofs.NamedLaws.{named-gap, StandsAt-set}
use Rattle.cds_book.proofs.MethodLaws.{IsNewText-accepted}

-- b holds what a holds
pub record HoldsSame (a b : Inside) : Type 0 where
  pub traces : map traces_shown b.traces.entries.items ≡ map traces_shown a.traces.entries.items
  pub trace_versions : b.trace_versions ≡ a.trace_versions
  pub samples : b.samples ≡ a.samples
  pub methods : map method_shown b.methods.entries.items ≡ map method_shown a.methods.entries.items
  pub method_versions : b.method_versions ≡ a.method_versions
  pub sequences : map sequence_shown b.sequences.entries.items ≡ map sequence_shown a.sequences.entries.items

-- no room was taken
pub no_room : (a b : Inside) (v : TablesValue) → tables_held a ≡ v → v.room ≡ None → b.room ≡ a.room → IfSome b.room (HasRoom b)
no_room a b v view_is none same = subst (λ o. IfSome o (HasRoom b)) (sym same) (by_room a.room (ap (λ (w : TablesValue). w.room) view_is ∙ none))
  where
    by_room : (room : Option Taken) → option_map room_shown room ≡ None → IfSome room (HasRoom b)
    by_room None is = tt
    by_room (Some x) is = cc

module _ (a b : Inside) (same : HoldsSame a b) where
  pub state-HoldsSame : state_held b ≡ state_held a
  state-HoldsSame = state_eq _ _ _ _ _ _ same.traces same.methods same.sequences

  -- and keeps the rules, where its room is there
  pub IsHeld-HoldsSame : IsHeld a → IfSome b.room (HasRoom b) → IsHeld b
  IsHeld-HoldsSame held room = record {
    tables = subst IsTables (sym state-HoldsSame) held.tables;
    trace_versions = same.trace_versions ∙ held.trace_versions ∙ ap trace_versions_in_all (sym same.traces);
    samples = same.samples ∙ held.samples ∙ ap samples_in_all (sym same.traces);
    method_versions = same.method_versions ∙ held.method_versions ∙ ap method_versions_in_all (sym same.methods);
    room = room;
  }

-- the same entries, with another at a place that shows the same
abbrev pub ShowsSame : {H E : Type 0} → (H → E) → List H → List H → Type 0
ShowsSame shown hs ks = map shown hs ≡ map shown ks

module _ (entries : List HeldTraces) (at : ℕ) (r e : HeldTraces) (read : r ≡ get_or entries at r) (named : e.name ≡ r.name) (same : e.value.items ≡ r.value.items) where
  -- an entry of the same versions shows the same
  pub same_traces : ShowsSame traces_shown (set entries at e) entries
  same_traces = map-set_same traces_shown entries at e r (entry_eq e.name r.name e.value.items r.value.items named same ∙ ap traces_shown read)

  -- it stands where the other stood, and its room is there
  pub room_for_version : (name : List ℕ) → IsTraceAt entries name at → vec_len e.value < vec_capacity e.value →
      IsTraceAt (set entries at e) name at × HoldsAt (λ (x : HeldTraces). vec_len x.value < vec_capacity x.value) (set entries at e) at
  room_for_version name stands room = (
    StandsAt-set held_name entries name at e (named ∙ ap held_name read ∙ stands.here r) stands,
    λ d. subst (λ (x : HeldTraces). vec_len x.value < vec_capacity x.value) (sym (get_or-set_same entries at e d stands.within)) room,
  )

module _ (entries : List HeldMethod) (at : ℕ) (r e : HeldMethod) (read : r ≡ get_or entries at r) (named : e.name ≡ r.name) (drafted : e.value.draft ≡ r.value.draft) (same : e.value.versions.items ≡ r.value.versions.items) where
  -- an entry of the same texts shows the same
  pub same_methods : ShowsSame method_shown (set entries at e) entries
  same_methods = map-set_same method_shown entries at e r
      (method_eq e.name r.name e.value.draft r.value.draft e.value.versions.items r.value.versions.items named drafted same ∙ ap method_shown read)

  -- it stands where the other stood, its room is there, and the text is its draft
  pub room_for_text : (name text : List ℕ) → IsMethodAt entries name at → text ≡ r.value.draft → vec_len e.value.versions < vec_capacity e.value.versions →
      IsMethodAt (set entries at e) name at × HoldsAt (λ (x : HeldMethod). (x.value.draft ≡ text) × (vec_len x.value.versions < vec_capacity x.value.versions)) (set entries at e) at
  room_for_text name text stands copied room = (
    StandsAt-set held_name entries name at e (named ∙ ap held_name read ∙ stands.here r) stands,
    λ d. subst (λ (x : HeldMethod). (x.value.draft ≡ text) × (vec_len x.value.versions < vec_capacity x.value.versions)) (sym (get_or-set_same entries at e d stands.within))
        (drafted ∙ sym copied, room),
  )

module _ (entries : List HeldSequence) (at : ℕ) (r e : HeldSequence) (read : r ≡ get_or entries at r) (named : e.name ≡ r.name) (put : e.value.sequence ≡ r.value.sequence) (same : e.value.signed.items ≡ r.value.signed.items) where
  -- an entry of the same sequence and the same signatures shows the same
  pub same_sequences : ShowsSame sequence_shown (set entries at e) entries
  same_sequences = map-set_same sequence_shown entries at e r
      (sequence_eq e.name r.name e.value.sequence r.value.sequence e.value.signed.items r.value.signed.items named put same ∙ ap sequence_shown read)

  -- it stands where the other stood, and its room is there
  pub room_for_signature : (name : List ℕ) → StandsAt held_name entries name at → vec_len e.value.signed < vec_capacity e.value.signed →
      StandsAt held_name (set entries at e) name at × HoldsAt (λ (x : HeldSequence). vec_len x.value.signed < vec_capacity x.value.signed) (set entries at e) at
  room_for_signature name stands room = (
    StandsAt-set held_name entries name at e (named ∙ ap held_name read ∙ stands.here r) stands,
    λ d. subst (λ (x : HeldSequence). vec_len x.value.signed < vec_capacity x.value.signed) (sym (get_or-set_same entries at e d stands.within)) room,
  )

-- tables with other entries that show the same hold the same
pub HoldsSame-traces : (a b : Inside) → ShowsSame traces_shown b.traces.entries.items a.traces.entries.items → b.trace_versions ≡ a.trace_versions → b.samples ≡ a.samples →
    b.methods.entries.items ≡ a.methods.entries.items → b.method_versions ≡ a.method_versions → b.sequences.entries.items ≡ a.sequences.entries.items → HoldsSame a b
HoldsSame-traces a b traces versions samples methods texts others = record { sequences = ap (map sequence_shown) others; traces = traces; trace_versions = versions; samples = samples; methods = ap (map method_shown) methods; method_versions = texts }

-- so do tables with another entry that shows the same, among entries that stayed
pub HoldsSame-read : (a b : Inside) (entries : List HeldTraces) (at : ℕ) (r e : HeldTraces) → entries ≡ a.traces.entries.items → r ≡ get_or entries at r → e.name ≡ r.name → e.value.items ≡ r.value.items →
    b.traces.entries.items ≡ set entries at e → b.trace_versions ≡ a.trace_versions → b.samples ≡ a.samples → b.methods.entries.items ≡ a.methods.entries.items → b.method_versions ≡ a.method_versions → b.sequences.entries.items ≡ a.sequences.entries.items → HoldsSame a b
HoldsSame-read a b entries at r e stay read named same are versions samples methods texts others =
    HoldsSame-traces a b (ap (map traces_shown) are ∙ same_traces entries at r e read named same ∙ ap (map traces_shown) stay) versions samples methods texts others

pub HoldsSame-methods : (a b : Inside) → ShowsSame method_shown b.methods.entries.items a.methods.entries.items → b.trace_versions ≡ a.trace_versions → b.samples ≡ a.samples →
    b.traces.entries.items ≡ a.traces.entries.items → b.method_versions ≡ a.method_versions → b.sequences.entries.items ≡ a.sequences.entries.items → HoldsSame a b
HoldsSame-methods a b methods versions samples traces texts others = record { sequences = ap (map sequence_shown) others; traces = ap (map traces_shown) traces; trace_versions = versions; samples = samples; methods = methods; method_versions = texts }

pub HoldsSame-sequences : (a b : Inside) → ShowsSame sequence_shown b.sequences.entries.items a.sequences.entries.items → b.trace_versions ≡ a.trace_versions → b.samples ≡ a.samples →
    b.traces.entries.items ≡ a.traces.entries.items → b.methods.entries.items ≡ a.methods.entries.items → b.method_versions ≡ a.method_versions → HoldsSame a b
HoldsSame-sequences a b others versions samples traces methods texts = record { sequences = others; traces = ap (map traces_shown) traces; trace_versions = versions; samples = samples; methods = ap (map method_shown) methods; method_versions = texts }

-- tables that hold nothing keep all rules
pub IsTables-empty : IsTables empty_tables
unfolding IsStrictlySortedBy
IsTables-empty = record {
  traces = record { names = tt; each = All-nil IsTraceEntry; few = omega arith; few_versions = omega arith; few_samples = omega arith };
  methods = record { names = tt; each = All-nil IsMethodEntry; few = omega arith; few_versions = omega arith };
  sequences = record { names = tt; few = omega arith; few_rows = omega arith; few_bytes = omega arith; each = All-nil IsSequenceEntry };
  bases = All-nil (λ (e : NamedSequence). e.sequence.basis ≤ changes_in_all empty_tables);
  bound = All-nil (λ (e : NamedSequence). IsBound empty_tables e.sequence);
  listed = All-nil (λ (e : NamedSequence). AreThere empty_tables e.sequence.standards);
}

pub IsHeld-empty : (a : Inside) → a.traces.entries.items ≡ [] → a.methods.entries.items ≡ [] → a.sequences.entries.items ≡ [] → a.trace_versions ≡ 0 → a.samples ≡ 0 → a.method_versions ≡ 0 → a.room ≡ None → IsHeld a
IsHeld-empty a traces methods sequences versions samples texts room =
    let none : state_held a ≡ empty_tables = state_eq _ _ _ _ _ _ (ap (map traces_shown) traces) (ap (map method_shown) methods) (ap (map sequence_shown) sequences) in
    record {
      tables = subst IsTables (sym none) IsTables-empty;
      trace_versions = versions ∙ ap (λ (s : TablesState). trace_versions_in_all s.traces) (sym none);
      samples = samples ∙ ap (λ (s : TablesState). samples_in_all s.traces) (sym none);
      method_versions = texts ∙ ap (λ (s : TablesState). method_versions_in_all s.methods) (sym none);
      room = subst (λ o. IfSome o (HasRoom a)) (sym room) tt;
    }

-- a method without a place has no draft
pub no_gap : (a : Inside) (v : TablesValue) (name : List ℕ) (at : ℕ) → tables_held a ≡ v → IsMethodGap a.methods.entries.items name at → IsSome (draft_of v.state name) → ⊥
no_gap a v name at view_is gap there =
    let none : draft_of v.state name ≡ None = draft_of-found v.state name None (method_named-held a v view_is name ∙ ap (option_map method_shown) (named-gap held_name a.methods.entries.items name at gap)) in
    let some = (some_draft (draft_of v.state name) there).1 in
    cc

-- a name without a place has no sequence
pub no_sequence_gap : (a : Inside) (v : TablesValue) (name : List ℕ) (at : ℕ) → tables_held a ≡ v → IsGapAt held_name a.sequences.entries.items name at → IsSome (sequence_of v.state name) → ⊥
no_sequence_gap a v name at view_is gap there =
    let none : sequence_of v.state name ≡ None = sequence_of-found v.state name None (sequence_named-held a v view_is name ∙ ap (option_map sequence_shown) (named-gap held_name a.sequences.entries.items name at gap)) in
    let some = (there-some (sequence_of v.state name) there).1 in
    cc

-- an accepted freeze has a draft
pub draft-accepted : (t : TablesState) (name : List ℕ) (version : ℕ) → Accepts t (change.Freeze name version) → IsSome (draft_of t name)
draft-accepted t name version accepts = let new = IsNewText-accepted t name version accepts.accepted in rw new.is refl

-- it is one of the tables without room too
pub draft-reserved : (a : Inside) (v : TablesValue) (c : Change) (name : List ℕ) (version : ℕ) → tables_held a ≡ v → Accepts v.state c → c ≡ change.Freeze name version → IsSome (draft_of (state_held a) name)
draft-reserved a v c name version view_is accepts is =
    draft-accepted (state_held a) name version (subst (Accepts (state_held a)) is (subst (λ (w : TablesValue). Accepts w.state c) (sym view_is) accepts))

-- an accepted change of a sequence makes one
pub made-reserved : (a : Inside) (v : TablesValue) (c d : Change) (name : List ℕ) → tables_held a ≡ v → IsHeld a → Accepts v.state c → c ≡ d → Makes name d → IsSome (sequence_made (state_held a) c)
made-reserved a v c d name view_is held accepts is makes =
    let accepts' : Accepts (state_held a) c = subst (λ (w : TablesValue). Accepts w.state c) (sym view_is) accepts in
    let m = MakesSequence-accepted (state_held a) held.tables c name (subst (Makes name) (sym is) makes) accepts' in
    rw m.made_is refl

-- an accepted signature is one of a sequence that is there
pub signed-reserved : (a : Inside) (v : TablesValue) (c d : Change) (name : List ℕ) → tables_held a ≡ v → Accepts v.state c → c ≡ d → Signs name d → IsSome (sequence_of (state_held a) name)
signed-reserved a v c d name view_is accepts is signs =
    let accepts' : Accepts (state_held a) c = subst (λ (w : TablesValue). Accepts w.state c) (sym view_is) accepts in
    let m = MakesSignature-accepted (state_held a) c name (subst (Signs name) (sym is) signs) accepts' in
    rw m.there refl
