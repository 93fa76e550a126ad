-- What is kept of tables as they are held: the counts, and the rules of the tables after a change.
use Rattle.std.proofs.Common.{◌≡◌, ◌∙◌, ℕ, suc, ◌+◌, ◌==◌, Bool, true, false, not, Bor, List, [], ◌∷◌, ◌++◌, length, get_or, set, map, Option, Some, None, option_map, Vec, Global, refl, sym, ap, subst, arith}
use Rattle.std.specs.Prelude.{IfSome, IsSome, is_none, is_some, option_copied}
use Rattle.std.specs.List.{HoldsAt}
use Rattle.std.proofs.lemmas.Bool.Decides.{nat_tests}
use Rattle.std.proofs.lemmas.List.{length-map}
use Rattle.cds_trace.specs.Signal.{Signal}
use Rattle.cds_book.specs.Held.{HeldTraces, HeldMethod, held_name, traces_shown, method_shown, sequence_shown, room_shown, state_held, tables_held, IsHeld, HasRoom, IsTraceAt, IsTraceGap, IsMethodAt, IsMethodGap}
use Rattle.cds_book.specs.Kept.{IsTables, trace_versions_in_all, samples_in_all, method_versions_in_all}
use Rattle.cds_base.specs.Named.{placed, StandsAt}
use Rattle.cds_book.specs.Plan.{applied, carried, counts_of, inputs_differ, raised, rises_of, with_method, Accepts}
use Rattle.cds_book.specs.Raising.{raised_by}
use Rattle.cds_book.specs.Tables.{NamedTraces, NamedMethod, NamedSequence, TablesState, TablesValue, Room, trace_room, draft_room, freeze_room, method_named, signals_of, draft_of, texts_of}
use Rattle.cds_sign.specs.declared.command.Change.TheVariants as change
use Rattle.cds_sign.specs.declared.command.Change.{Change}
use Rattle.cds_base.specs.declared.named.Named.{Named}
use Rattle.cds_book.specs.declared.entry.MethodTexts.{MethodTexts}
use Rattle.cds_book.specs.declared.limits.TheConstants.{MOST_TRACE_NAMES, MOST_TRACE_VERSIONS, MOST_SAMPLES_IN_ALL, MOST_METHODS, MOST_METHOD_VERSIONS}
use Rattle.cds_sign.specs.declared.limits.TheConstants.{MOST_VERSIONS}
use Rattle.cds_book.specs.declared.room.Taken.{Taken}
use Rattle.cds_book.specs.declared.room.Taken.TheVariants.{Version, Traces, Draft, Method, Freeze}
use Rattle.cds_book.specs.declared.tables.Tables.TheInside.{Inside}
use Rattle.cds_base.proofs.NamedLaws.{map-placed, named-stands, named-gap, placed-stands}
use Rattle.cds_book.proofs.LookLaws.{traces_named-held, signals_of-found, method_named-held, texts_of-found, draft_of-found}
use Rattle.cds_book.proofs.TraceLaws.{trace_name, new_name, counts-trace, trace_versions-trace, samples-trace}
use Rattle.cds_book.proofs.MethodLaws.{method_name, counts-draft, counts-freeze, method_versions-with}
use Rattle.cds_book.proofs.AppliedLaws.{IsTables-applied_trace}
use Rattle.cds_book.proofs.RaiseLaws.{raised_by-map}
use mir.Val.{bool_byte}

-- a name is new where it has no versions
new_name-empty : (versions : List Signal) → bool_byte (length versions == 0) ≡ new_name versions
new_name-empty [] = refl
new_name-empty (s ∷ ss) = let some : (suc (length ss) == 0) ≡ false = grind (arith, nat_tests) in ap bool_byte some

-- the counts that a trace raises, from those that are kept
pub counts-held : (a : Inside) (v : TablesValue) (name : List ℕ) (signal : Signal) (versions : List Signal) (names new samples : ℕ) →
    IsHeld a → tables_held a ≡ v → names ≡ length a.traces.entries.items → versions ≡ signals_of v.state name → new ≡ bool_byte (length versions == 0) → samples ≡ length signal.samples →
    (names + new, MOST_TRACE_NAMES) ∷ (length versions + 1, MOST_VERSIONS) ∷ (a.trace_versions + 1, MOST_TRACE_VERSIONS) ∷ (a.samples + samples, MOST_SAMPLES_IN_ALL) ∷ []
    ≡ counts_of (change.Trace name signal) (carried v.state (change.Trace name signal))
counts-held a v name signal versions names new samples held view_is many are fresh long =
    let t = state_held a in
    let same : t ≡ v.state = ap (λ (w : TablesValue). w.state) view_is in
    let are' : versions ≡ signals_of t name = are ∙ ap (λ s. signals_of s name) (sym same) in
    let length_held : names ≡ length t.traces = many ∙ sym (length-map a.traces.entries.items traces_shown) in
    let fresh' : new ≡ new_name (signals_of t name) = fresh ∙ new_name-empty versions ∙ ap new_name are' in
    subst (λ s. (names + new, MOST_TRACE_NAMES) ∷ (length versions + 1, MOST_VERSIONS) ∷ (a.trace_versions + 1, MOST_TRACE_VERSIONS) ∷ (a.samples + samples, MOST_SAMPLES_IN_ALL) ∷ [] ≡ counts_of (change.Trace name signal) (carried s (change.Trace name signal))) same
    (rw (length_held, fresh', are', held.trace_versions, held.samples, long) (sym (counts-trace t held.tables name signal)))

-- tables of equal lists are equal
pub state_eq : (xs ys : List NamedTraces) (ms ns : List NamedMethod) (ss us : List NamedSequence) → xs ≡ ys → ms ≡ ns → ss ≡ us
    → let s : TablesState = record { traces = xs; methods = ms; sequences = ss } in let t : TablesState = record { traces = ys; methods = ns; sequences = us } in s ≡ t
state_eq xs ys ms ns ss us e f g = cc

-- values of equal tables and room are equal
pub value_eq : (s t : TablesState) (r q : Option Room) → s ≡ t → r ≡ q → let v : TablesValue = record { state = s; room = r } in let w : TablesValue = record { state = t; room = q } in v ≡ w
value_eq s t r q e f = cc

-- entries of equal names and versions are equal
pub entry_eq : (n m : List ℕ) (vs ws : List Signal) → n ≡ m → vs ≡ ws → let e : NamedTraces = record { name = n; versions = vs } in let f : NamedTraces = record { name = m; versions = ws } in e ≡ f
entry_eq n m vs ws e f = cc

-- methods of equal names, drafts and versions are equal
pub method_eq : (n m d g : List ℕ) (vs ws : List (List ℕ)) → n ≡ m → d ≡ g → vs ≡ ws → let e : NamedMethod = record { name = n; draft = d; versions = vs } in let f : NamedMethod = record { name = m; draft = g; versions = ws } in e ≡ f
method_eq n m d g vs ws e f h = cc

-- the name of what was read at a place
read_name : {V : Type 0} (hs : List (Named V)) (name : List ℕ) (at : ℕ) (r : Named V) → StandsAt held_name hs name at → r ≡ get_or hs at r → r.name ≡ name
read_name hs name at r stands read = ap held_name read ∙ stands.here r

-- the room that was taken is what it is good for
pub HasRoom-taken : (a : Inside) (x taken : Taken) → IsHeld a → Some x ≡ a.room → x ≡ taken → HasRoom a taken
HasRoom-taken a x taken held is same = subst (HasRoom a) same (subst (λ o. IfSome o (HasRoom a)) (sym is) held.room)

-- it is that of the name for which it was taken
pub room_name : (a : Inside) (v : TablesValue) (room : Room) (x : Taken) → tables_held a ≡ v → v.room ≡ Some room → Some x ≡ a.room → room_shown x ≡ room
room_name a v room x view_is is taken =
    let shown : option_map room_shown a.room ≡ Some room = ap (λ (w : TablesValue). w.room) view_is ∙ is in
    let both : Some (room_shown x) ≡ Some room = ap (option_map room_shown) taken ∙ shown in
    cc

-- room for one more version of a trace that is there
pub room-version : (a : Inside) (v : TablesValue) (name n : List ℕ) (at : ℕ) (rises : List Bool) (held_rises : Vec Bool Global) (x : Taken) → tables_held a ≡ v → IsHeld a → v.room ≡ Some (trace_room name rises) → Some x ≡ a.room → x ≡ Version n at held_rises → IsTraceAt a.traces.entries.items name at × (held_rises.items ≡ rises)
room-version a v name n at rises held_rises x view_is held is taken same =
    let shown : room_shown (Version n at held_rises) ≡ trace_room name rises = ap room_shown (sym same) ∙ room_name a v (trace_room name rises) x view_is is taken in
    let one : n ≡ name = cc in
    let flags : held_rises.items ≡ rises = cc in
    (subst (λ m. IsTraceAt a.traces.entries.items m at) one (HasRoom-taken a x (Version n at held_rises) held taken same).0, flags)

-- room for a trace name that isn't there yet
pub room-traces : (a : Inside) (v : TablesValue) (name n : List ℕ) (at : ℕ) (versions : Vec Signal Global) (rises : List Bool) (held_rises : Vec Bool Global) (x : Taken) → tables_held a ≡ v → IsHeld a → v.room ≡ Some (trace_room name rises) → Some x ≡ a.room → x ≡ Traces n at versions held_rises → IsTraceGap a.traces.entries.items name at × (versions.items ≡ []) × (held_rises.items ≡ rises)
room-traces a v name n at versions rises held_rises x view_is held is taken same =
    let shown : room_shown (Traces n at versions held_rises) ≡ trace_room name rises = ap room_shown (sym same) ∙ room_name a v (trace_room name rises) x view_is is taken in
    let one : n ≡ name = cc in
    let flags : held_rises.items ≡ rises = cc in
    let room = HasRoom-taken a x (Traces n at versions held_rises) held taken same in
    (subst (λ m. IsTraceGap a.traces.entries.items m at) one room.0, room.2, flags)

-- the sequences with the bases raised of those whose inputs a change makes others
abbrev pub raised_all : TablesState → Change → List NamedSequence
raised_all t c = map (λ (e : NamedSequence). raised (inputs_differ t (carried t c) e.name) e) t.sequences

-- raising as room was taken for it
pub raised-each : (a : Inside) (v : TablesValue) → tables_held a ≡ v → (c : Change) (rises : List Bool) → rises ≡ rises_of v.state c → raised_by rises (state_held a).sequences ≡ raised_all (state_held a) c
raised-each a v view_is c rises flags =
    let t = state_held a in
    let same : rises ≡ rises_of t c = flags ∙ ap (λ (w : TablesValue). rises_of w.state c) (sym view_is) in
    ap (λ (bs : List Bool). raised_by bs t.sequences) same ∙ raised_by-map (λ (e : NamedSequence). inputs_differ t (carried t c) e.name) t.sequences

-- which are the sequences after a change that puts none
pub raised-applied : (a : Inside) (v : TablesValue) → tables_held a ≡ v → (c : Change) → (carried (state_held a) c).sequences ≡ (state_held a).sequences → (rises : List Bool) → rises ≡ rises_of v.state c
    → raised_by rises (state_held a).sequences ≡ (applied (state_held a) c).sequences
unfolding applied
raised-applied a v view_is c stay rises flags =
    let t = state_held a in
    raised-each a v view_is c rises flags ∙ ap (map (λ (e : NamedSequence). raised (inputs_differ t (carried t c) e.name) e)) (sym stay)

-- b is a with one more version of a trace
pub record PutsTrace (a b : Inside) (name : List ℕ) (signal : Signal) : Type 0 where
  pub traces : map traces_shown b.traces.entries.items ≡ placed trace_name (map traces_shown a.traces.entries.items) (record { name = name; versions = signals_of (state_held a) name ++ signal ∷ [] })
  pub trace_versions : b.trace_versions ≡ a.trace_versions + 1
  pub samples : b.samples ≡ a.samples + length signal.samples
  pub methods : b.methods.entries.items ≡ a.methods.entries.items
  pub method_versions : b.method_versions ≡ a.method_versions
  pub sequences : map sequence_shown b.sequences.entries.items ≡ (applied (state_held a) (change.Trace name signal)).sequences
  pub room : b.room ≡ None

-- an entry that is placed is seen as one with its name and its versions
placed_traces : (hs : List HeldTraces) (e : HeldTraces) (name : List ℕ) (versions : List Signal) → e.name ≡ name → e.value.items ≡ versions →
    map traces_shown (placed held_name hs e) ≡ placed trace_name (map traces_shown hs) (record { name = name; versions = versions })
placed_traces hs e name versions named are = map-placed traces_shown trace_name hs e ∙ ap (placed trace_name (map traces_shown hs)) (entry_eq e.name name e.value.items versions named are)

module _ (a : Inside) (name : List ℕ) (at : ℕ) (signal : Signal) where
  -- one more version of an entry that is there
  pub puts_version : (e r : HeldTraces) → IsTraceAt a.traces.entries.items name at → r ≡ get_or a.traces.entries.items at r → e.name ≡ r.name → e.value.items ≡ r.value.items ++ signal ∷ [] →
      map traces_shown (set a.traces.entries.items at e) ≡ placed trace_name (map traces_shown a.traces.entries.items) (record { name = name; versions = signals_of (state_held a) name ++ signal ∷ [] })
  puts_version e r stands read named grown =
      let same_name : e.name ≡ name = named ∙ read_name a.traces.entries.items name at r stands read in
      let here : StandsAt held_name a.traces.entries.items e.name at = subst (λ n. StandsAt held_name a.traces.entries.items n at) (sym same_name) stands in
      let found = traces_named-held a (tables_held a) refl name ∙ ap (option_map traces_shown) (named-stands held_name a.traces.entries.items name at r stands ∙ ap Some (sym read)) in
      let versions : signals_of (state_held a) name ≡ r.value.items = signals_of-found (state_held a) name _ found in
      ap (map traces_shown) (sym (placed-stands held_name a.traces.entries.items e at here))
      ∙ placed_traces a.traces.entries.items e name (signals_of (state_held a) name ++ signal ∷ []) same_name (grown ∙ ap (λ vs. vs ++ signal ∷ []) (sym versions))

  -- the first version of a name
  pub puts_traces : (versions : Vec Signal Global) → IsTraceGap a.traces.entries.items name at → versions.items ≡ signal ∷ [] →
      map traces_shown (placed held_name a.traces.entries.items (record { name = name; value = versions })) ≡ placed trace_name (map traces_shown a.traces.entries.items) (record { name = name; versions = signals_of (state_held a) name ++ signal ∷ [] })
  puts_traces versions gap first =
      let found = traces_named-held a (tables_held a) refl name ∙ ap (option_map traces_shown) (named-gap held_name a.traces.entries.items name at gap) in
      let none : signals_of (state_held a) name ≡ [] = signals_of-found (state_held a) name _ found in
      placed_traces a.traces.entries.items (record { name = name; value = versions }) name (signals_of (state_held a) name ++ signal ∷ []) refl (first ∙ ap (λ vs. vs ++ signal ∷ []) (sym none))

-- a name that is put with its first version
pub PutsTrace-new : (a b : Inside) (name : List ℕ) (at : ℕ) (signal : Signal) (versions : Vec Signal Global) → IsTraceGap a.traces.entries.items name at → versions.items ≡ signal ∷ [] →
    b.traces.entries.items ≡ placed held_name a.traces.entries.items (record { name = name; value = versions }) → b.trace_versions ≡ a.trace_versions + 1 → b.samples ≡ a.samples + length signal.samples →
    b.methods.entries.items ≡ a.methods.entries.items → b.method_versions ≡ a.method_versions → map sequence_shown b.sequences.entries.items ≡ (applied (state_held a) (change.Trace name signal)).sequences → b.room ≡ None → PutsTrace a b name signal
PutsTrace-new a b name at signal versions gap first put more longer methods texts others room = record {
  sequences = others;
  traces = ap (map traces_shown) put ∙ puts_traces a name at signal versions gap first;
  trace_versions = more;
  samples = longer;
  methods = methods;
  method_versions = texts;
  room = room;
}

module _ (a b : Inside) (v : TablesValue) (name : List ℕ) (signal : Signal) (view_is : tables_held a ≡ v) (held : IsHeld a) (puts : PutsTrace a b name signal) where
  -- what the tables then hold
  state-PutsTrace : state_held b ≡ applied (state_held a) (change.Trace name signal)
  unfolding applied
  state-PutsTrace = state_eq _ _ _ _ _ _ puts.traces (ap (map method_shown) puts.methods) puts.sequences

  pub view-PutsTrace : tables_held b ≡ record { state = applied v.state (change.Trace name signal); room = None }
  view-PutsTrace =
      let state : state_held b ≡ applied v.state (change.Trace name signal) = state-PutsTrace ∙ ap (λ (w : TablesValue). applied w.state (change.Trace name signal)) view_is in
      let room : option_map room_shown b.room ≡ None = ap (option_map room_shown) puts.room in
      value_eq (state_held b) (applied v.state (change.Trace name signal)) (option_map room_shown b.room) None state room

  -- and that all is kept
  pub IsHeld-PutsTrace : Accepts v.state (change.Trace name signal) → IsHeld b
  IsHeld-PutsTrace accepts =
      let t = state_held a in
      let accepts' : Accepts t (change.Trace name signal) = subst (λ (w : TablesValue). Accepts w.state (change.Trace name signal)) (sym view_is) accepts in
      let is : state_held b ≡ applied t (change.Trace name signal) = state-PutsTrace in
      record {
        tables = subst IsTables (sym is) (IsTables-applied_trace t name signal held.tables accepts');
        trace_versions = puts.trace_versions ∙ ap (λ n. n + 1) held.trace_versions ∙ sym (trace_versions-trace t held.tables name signal) ∙ ap trace_versions_in_all (sym puts.traces);
        samples = puts.samples ∙ ap (λ n. n + length signal.samples) held.samples ∙ sym (samples-trace t held.tables name signal) ∙ ap samples_in_all (sym puts.traces);
        method_versions = puts.method_versions ∙ held.method_versions ∙ ap method_versions_in_all (ap (map method_shown) (sym puts.methods));
        room = subst (λ o. IfSome o (HasRoom b)) (sym puts.room) tt;
      }

-- what is none where it is seen
none_seen : (o : Option (Bor (List ℕ))) (b : Bool) → is_some o ≡ not b → b ≡ is_none (option_copied o)
none_seen None true seen = refl
none_seen None false seen = seen
none_seen (Some x) true seen = seen
none_seen (Some x) false seen = refl

-- the count that a draft raises, from what is kept
pub draft_counts-held : (a : Inside) (v : TablesValue) (name text : List ℕ) (draft : Option (Bor (List ℕ))) (is_new : Bool) (methods new : ℕ) → IsHeld a → tables_held a ≡ v → methods ≡ length a.methods.entries.items → option_copied draft ≡ draft_of v.state name → is_some draft ≡ not is_new → new ≡ bool_byte is_new →
    (methods + new, MOST_METHODS) ∷ [] ≡ counts_of (change.Draft name text) (carried v.state (change.Draft name text))
draft_counts-held a v name text draft is_new methods new held view_is many is seen fresh =
    let t = state_held a in
    let same : t ≡ v.state = ap (λ (w : TablesValue). w.state) view_is in
    let length_held : methods ≡ length t.methods = many ∙ sym (length-map a.methods.entries.items method_shown) in
    let fresh' : new ≡ bool_byte (is_none (draft_of t name)) = fresh ∙ ap bool_byte (none_seen draft is_new seen) ∙ ap (λ o. bool_byte (is_none o)) (is ∙ ap (λ s. draft_of s name) (sym same)) in
    subst (λ s. (methods + new, MOST_METHODS) ∷ [] ≡ counts_of (change.Draft name text) (carried s (change.Draft name text))) same
    (rw (length_held, fresh') (sym (counts-draft t held.tables name text)))

-- a draft that is there
pub some_draft : {X : Type 0} (o : Option X) → IsSome o → (x : X) × (o ≡ Some x)
some_draft None is = cc
some_draft (Some x) is = (x, refl)

-- the counts that a freeze raises, from those that are kept
pub freeze_counts-held : (a : Inside) (v : TablesValue) (name : List ℕ) (version : ℕ) (texts : List (List ℕ)) → IsHeld a → tables_held a ≡ v → IsSome (draft_of v.state name) → texts ≡ texts_of v.state name →
    (length texts + 1, MOST_VERSIONS) ∷ (a.method_versions + 1, MOST_METHOD_VERSIONS) ∷ [] ≡ counts_of (change.Freeze name version) (carried v.state (change.Freeze name version))
freeze_counts-held a v name version texts held view_is is_there are =
    let t = state_held a in
    let draft = (some_draft (draft_of v.state name) is_there).0 in
    let is : draft_of v.state name ≡ Some draft = (some_draft (draft_of v.state name) is_there).1 in
    let same : t ≡ v.state = ap (λ (w : TablesValue). w.state) view_is in
    let are' : texts ≡ texts_of t name = are ∙ ap (λ s. texts_of s name) (sym same) in
    let is' : draft_of t name ≡ Some draft = ap (λ s. draft_of s name) same ∙ is in
    subst (λ s. (length texts + 1, MOST_VERSIONS) ∷ (a.method_versions + 1, MOST_METHOD_VERSIONS) ∷ [] ≡ counts_of (change.Freeze name version) (carried s (change.Freeze name version))) same
    (rw (are', held.method_versions) (sym (counts-freeze t held.tables name version draft is')))

-- room for another draft, for a new method, and for one more version of a method
pub room-draft : (a : Inside) (v : TablesValue) (name n : List ℕ) (at : ℕ) (x : Taken) → tables_held a ≡ v → IsHeld a → v.room ≡ Some (draft_room name) → Some x ≡ a.room → x ≡ Draft n at → IsMethodAt a.methods.entries.items name at
room-draft a v name n at x view_is held is taken same =
    let shown : room_shown (Draft n at) ≡ draft_room name = ap room_shown (sym same) ∙ room_name a v (draft_room name) x view_is is taken in
    let one : n ≡ name = cc in
    subst (λ m. IsMethodAt a.methods.entries.items m at) one (HasRoom-taken a x (Draft n at) held taken same)

pub room-method : (a : Inside) (v : TablesValue) (name n : List ℕ) (at : ℕ) (x : Taken) → tables_held a ≡ v → IsHeld a → v.room ≡ Some (draft_room name) → Some x ≡ a.room → x ≡ Method n at → IsMethodGap a.methods.entries.items name at
room-method a v name n at x view_is held is taken same =
    let shown : room_shown (Method n at) ≡ draft_room name = ap room_shown (sym same) ∙ room_name a v (draft_room name) x view_is is taken in
    let one : n ≡ name = cc in
    subst (λ m. IsMethodGap a.methods.entries.items m at) one (HasRoom-taken a x (Method n at) held taken same).0

pub room-freeze : (a : Inside) (v : TablesValue) (name n : List ℕ) (at : ℕ) (text : List ℕ) (rises : List Bool) (held_rises : Vec Bool Global) (x : Taken) → tables_held a ≡ v → IsHeld a → v.room ≡ Some (freeze_room name rises) → Some x ≡ a.room → x ≡ Freeze n at text held_rises → IsMethodAt a.methods.entries.items name at × HoldsAt (λ (e : HeldMethod). e.value.draft ≡ text) a.methods.entries.items at × (held_rises.items ≡ rises)
room-freeze a v name n at text rises held_rises x view_is held is taken same =
    let shown : room_shown (Freeze n at text held_rises) ≡ freeze_room name rises = ap room_shown (sym same) ∙ room_name a v (freeze_room name rises) x view_is is taken in
    let one : n ≡ name = cc in
    let flags : held_rises.items ≡ rises = cc in
    let room = HasRoom-taken a x (Freeze n at text held_rises) held taken same in
    (subst (λ m. IsMethodAt a.methods.entries.items m at) one room.0, λ d. (room.1 d).0, flags)

-- b is a with this draft and these versions of a method, so many more than before
pub record PutsMethod (a b : Inside) (name draft : List ℕ) (versions : List (List ℕ)) (more : ℕ) : Type 0 where
  pub methods : map method_shown b.methods.entries.items ≡ placed method_name (map method_shown a.methods.entries.items) (record { name = name; draft = draft; versions = versions })
  pub grown : length versions ≡ length (texts_of (state_held a) name) + more
  pub method_versions : b.method_versions ≡ a.method_versions + more
  pub traces : b.traces.entries.items ≡ a.traces.entries.items
  pub trace_versions : b.trace_versions ≡ a.trace_versions
  pub samples : b.samples ≡ a.samples
  pub room : b.room ≡ None

-- an entry of a method that is placed is seen as one with its name and its texts
placed_method : (hs : List HeldMethod) (e : HeldMethod) (name draft : List ℕ) (versions : List (List ℕ)) → e.name ≡ name → e.value.draft ≡ draft → e.value.versions.items ≡ versions →
    map method_shown (placed held_name hs e) ≡ placed method_name (map method_shown hs) (record { name = name; draft = draft; versions = versions })
placed_method hs e name draft versions named drafted are =
    map-placed method_shown method_name hs e ∙ ap (placed method_name (map method_shown hs)) (method_eq e.name name e.value.draft draft e.value.versions.items versions named drafted are)

module _ (a : Inside) (name : List ℕ) (at : ℕ) where
  -- what is read of a method that is there
  method_read : (r : HeldMethod) → IsMethodAt a.methods.entries.items name at → r ≡ get_or a.methods.entries.items at r → method_named (state_held a) name ≡ Some (method_shown r)
  method_read r stands read = method_named-held a (tables_held a) refl name ∙ ap (option_map method_shown) (named-stands held_name a.methods.entries.items name at r stands ∙ ap Some (sym read))

  pub texts_of-read : (r : HeldMethod) → IsMethodAt a.methods.entries.items name at → r ≡ get_or a.methods.entries.items at r → texts_of (state_held a) name ≡ r.value.versions.items
  texts_of-read r stands read = texts_of-found (state_held a) name _ (method_read r stands read)

  pub draft_of-read : (r : HeldMethod) → IsMethodAt a.methods.entries.items name at → r ≡ get_or a.methods.entries.items at r → draft_of (state_held a) name ≡ Some r.value.draft
  draft_of-read r stands read = draft_of-found (state_held a) name _ (method_read r stands read)

  -- another entry of a method that is there
  pub puts_entry : (e r : HeldMethod) (draft : List ℕ) (versions : List (List ℕ)) → IsMethodAt a.methods.entries.items name at → r ≡ get_or a.methods.entries.items at r → e.name ≡ r.name → e.value.draft ≡ draft → e.value.versions.items ≡ versions →
      map method_shown (set a.methods.entries.items at e) ≡ placed method_name (map method_shown a.methods.entries.items) (record { name = name; draft = draft; versions = versions })
  puts_entry e r draft versions stands read named drafted versioned =
      let same_name : e.name ≡ name = named ∙ read_name a.methods.entries.items name at r stands read in
      let here : StandsAt held_name a.methods.entries.items e.name at = subst (λ n. StandsAt held_name a.methods.entries.items n at) (sym same_name) stands in
      ap (map method_shown) (sym (placed-stands held_name a.methods.entries.items e at here))
      ∙ placed_method a.methods.entries.items e name draft versions same_name drafted versioned

  -- the entry of a new method
  pub puts_method : (texts : MethodTexts) (draft : List ℕ) → IsMethodGap a.methods.entries.items name at → texts.draft ≡ draft → texts.versions.items ≡ [] →
      map method_shown (placed held_name a.methods.entries.items (record { name = name; value = texts })) ≡ placed method_name (map method_shown a.methods.entries.items) (record { name = name; draft = draft; versions = texts_of (state_held a) name })
  puts_method texts draft gap drafted none =
      let found = method_named-held a (tables_held a) refl name ∙ ap (option_map method_shown) (named-gap held_name a.methods.entries.items name at gap) in
      let no_texts : texts_of (state_held a) name ≡ [] = texts_of-found (state_held a) name _ found in
      placed_method a.methods.entries.items (record { name = name; value = texts }) name draft (texts_of (state_held a) name) refl drafted (none ∙ sym no_texts)

-- a method that is put with its draft alone
pub PutsMethod-new : (a b : Inside) (name : List ℕ) (at : ℕ) (texts : MethodTexts) (draft : List ℕ) → IsMethodGap a.methods.entries.items name at → texts.draft ≡ draft → texts.versions.items ≡ [] →
    b.methods.entries.items ≡ placed held_name a.methods.entries.items (record { name = name; value = texts }) → b.method_versions ≡ a.method_versions →
    b.traces.entries.items ≡ a.traces.entries.items → b.trace_versions ≡ a.trace_versions → b.samples ≡ a.samples → b.room ≡ None → PutsMethod a b name draft (texts_of (state_held a) name) 0
PutsMethod-new a b name at texts draft gap drafted none put same traces versions samples room = record {
  methods = ap (map method_shown) put ∙ puts_method a name at texts draft gap drafted none;
  grown = omega arith;
  method_versions = omega (arith, same);
  traces = traces;
  trace_versions = versions;
  samples = samples;
  room = room;
}

module _ (a b : Inside) (v : TablesValue) (view_is : tables_held a ≡ v) (name draft : List ℕ) (versions : List (List ℕ)) (more : ℕ) (puts : PutsMethod a b name draft versions more) (c : Change) (others : List NamedSequence) (shown : map sequence_shown b.sequences.entries.items ≡ others) (is : applied (state_held a) c ≡ record (with_method (state_held a) name draft versions) { sequences = others }) where
  -- what the tables then hold
  state-PutsMethod : state_held b ≡ applied (state_held a) c
  state-PutsMethod = state_eq _ _ _ _ _ _ (ap (map traces_shown) puts.traces) puts.methods shown ∙ sym is

  pub view-PutsMethod : tables_held b ≡ record { state = applied v.state c; room = None }
  view-PutsMethod =
      let state : state_held b ≡ applied v.state c = state-PutsMethod ∙ ap (λ (w : TablesValue). applied w.state c) view_is in
      let room : option_map room_shown b.room ≡ None = ap (option_map room_shown) puts.room in
      value_eq (state_held b) (applied v.state c) (option_map room_shown b.room) None state room

  -- and that all is kept
  pub IsHeld-PutsMethod : IsHeld a → IsTables (applied (state_held a) c) → IsHeld b
  IsHeld-PutsMethod held kept =
      let t = state_held a in
      record {
        tables = subst IsTables (sym state-PutsMethod) kept;
        trace_versions = puts.trace_versions ∙ held.trace_versions ∙ ap trace_versions_in_all (ap (map traces_shown) (sym puts.traces));
        samples = puts.samples ∙ held.samples ∙ ap samples_in_all (ap (map traces_shown) (sym puts.traces));
        method_versions = puts.method_versions ∙ ap (λ n. n + more) held.method_versions ∙ sym (method_versions-with t held.tables name draft versions more puts.grown) ∙ ap method_versions_in_all (sym puts.methods);
        room = subst (λ o. IfSome o (HasRoom b)) (sym puts.room) tt;
      }

-- a change that is accepted of what the tables are seen as is accepted of what they hold
pub Accepts-held : (a : Inside) (v : TablesValue) (c : Change) → tables_held a ≡ v → Accepts v.state c → Accepts (state_held a) c
Accepts-held a v c view_is accepts = subst (λ (w : TablesValue). Accepts w.state c) (sym view_is) accepts
