-- How the tables are held. No public clause names this.
use Rattle.std.specs.Prelude.{◌≡◌, ℕ, ◌+◌, ◌<◌, List, [], Some, IfSome, Vec, map, length, option_map, vec_len, vec_capacity, if◌then◌else◌}
use Rattle.std.specs.Str.{bytes_eq}
use Rattle.std.specs.declared.alloc.Global.{Global}
use Rattle.cds_trace.specs.Signal.{Signal}
use Rattle.std.specs.List.{HoldsAt}
use Rattle.cds_base.specs.Named.{StandsAt, IsGapAt}
use Rattle.cds_book.specs.Inputs.{Bindings, bindings_of}
use Rattle.cds_book.specs.Tables.{NamedTraces, NamedMethod, NamedSequence, TablesState, TablesValue, Room, trace_room, draft_room, freeze_room, sequence_room, sign_room, signals_of, texts_of, sequence_of}
use Rattle.cds_book.specs.Kept.{IsTables, trace_versions_in_all, samples_in_all, method_versions_in_all}
use Rattle.cds_base.specs.declared.named.Named.{Named}
use Rattle.cds_book.specs.declared.entry.MethodTexts.{MethodTexts}
use Rattle.cds_book.specs.declared.entry.SignedSequence.{SignedSequence}
use Rattle.cds_book.specs.declared.over.Over.{Over}
use Rattle.cds_book.specs.declared.over.Over.TheVariants as over
use Rattle.cds_book.specs.declared.room.Taken.{Taken}
use Rattle.cds_book.specs.declared.room.Taken.TheVariants.{Version, Traces, Draft, Method, Freeze, Sequence, Sign}
use Rattle.cds_book.specs.declared.tables.Tables.TheInside.{Inside}

-- a trace name with its versions, and a method with its texts, as they are held
abbrev pub HeldTraces : Type 0
HeldTraces = Named (Vec Signal Global)

abbrev pub HeldMethod : Type 0
HeldMethod = Named MethodTexts

abbrev pub HeldSequence : Type 0
HeldSequence = Named SignedSequence

-- the name of what is held
abbrev pub held_name : {V : Type 0} → Named V → List ℕ
held_name e = e.name

-- what they are seen as
abbrev pub traces_shown : HeldTraces → NamedTraces
traces_shown e = record { name = e.name; versions = e.value.items }

abbrev pub method_shown : HeldMethod → NamedMethod
method_shown e = record { name = e.name; draft = e.value.draft; versions = e.value.versions.items }

abbrev pub sequence_shown : HeldSequence → NamedSequence
sequence_shown e = record { name = e.name; sequence = e.value.sequence; signed = e.value.signed.items }

-- for which change room was taken
abbrev pub room_shown : Taken → Room
room_shown (Version name at rises) = trace_room name rises.items
room_shown (Traces name at versions rises) = trace_room name rises.items
room_shown (Draft name at) = draft_room name
room_shown (Method name at) = draft_room name
room_shown (Freeze name at text rises) = freeze_room name rises.items
room_shown (Sequence name made rises) = sequence_room name made rises.items
room_shown (Sign name at signed) = sign_room name signed

abbrev pub state_held : Inside → TablesState
state_held a = record {
  traces = map traces_shown a.traces.entries.items;
  methods = map method_shown a.methods.entries.items;
  sequences = map sequence_shown a.sequences.entries.items;
}

-- what bindings are resolved by once this is made other
unfoldable pub bindings_over : TablesState → Over → Bindings
bindings_over tables over.Nothing = bindings_of tables
bindings_over tables (over.Trace name) =
    record (bindings_of tables) { traces = λ n. length (signals_of tables n) + (if bytes_eq n name then 1 else 0) }
bindings_over tables (over.Method name) =
    record (bindings_of tables) { methods = λ n. length (texts_of tables n) + (if bytes_eq n name then 1 else 0) }
bindings_over tables (over.Sequence name sequence) = record (bindings_of tables) {
  sequences = λ n. if bytes_eq name n then Some sequence else sequence_of tables n;
}

-- what tables are seen as
abbrev pub tables_held : Inside → TablesValue
tables_held a = record { state = state_held a; room = option_map room_shown a.room }

-- places of names among the traces, and among the methods
abbrev pub IsTraceAt : List HeldTraces → List ℕ → ℕ → Type 0
IsTraceAt = StandsAt held_name

abbrev pub IsTraceGap : List HeldTraces → List ℕ → ℕ → Type 0
IsTraceGap = IsGapAt held_name

abbrev pub IsMethodAt : List HeldMethod → List ℕ → ℕ → Type 0
IsMethodAt = StandsAt held_name

abbrev pub IsMethodGap : List HeldMethod → List ℕ → ℕ → Type 0
IsMethodGap = IsGapAt held_name

-- what the room that was taken is good for
abbrev pub HasRoom : Inside → Taken → Type 0
HasRoom a (Version name at rises) =
    IsTraceAt a.traces.entries.items name at
    × HoldsAt (λ (e : HeldTraces). vec_len e.value < vec_capacity e.value) a.traces.entries.items at
HasRoom a (Traces name at versions rises) =
    IsTraceGap a.traces.entries.items name at
    × (vec_len a.traces.entries < vec_capacity a.traces.entries)
    × (versions.items ≡ [])
    × (vec_len versions < vec_capacity versions)
HasRoom a (Draft name at) = IsMethodAt a.methods.entries.items name at
HasRoom a (Method name at) =
    IsMethodGap a.methods.entries.items name at × (vec_len a.methods.entries < vec_capacity a.methods.entries)
HasRoom a (Freeze name at text rises) =
    IsMethodAt a.methods.entries.items name at
    × HoldsAt
    (λ (e : HeldMethod). (e.value.draft ≡ text) × (vec_len e.value.versions < vec_capacity e.value.versions))
    a.methods.entries.items at
HasRoom a (Sequence name made rises) = vec_len a.sequences.entries < vec_capacity a.sequences.entries
HasRoom a (Sign name at signed) =
    StandsAt held_name a.sequences.entries.items name at
    × HoldsAt (λ (e : HeldSequence). vec_len e.value.signed < vec_capacity e.value.signed) a.sequences.entries.items at

-- the tables keep their rules, the kept counts are those of the tables, and the room that was taken is there
pub record IsHeld (a : Inside) : Type 0 where
  pub tables : IsTables (state_held a)
  pub trace_versions : a.trace_versions ≡ trace_versions_in_all (state_held a).traces
  pub samples : a.samples ≡ samples_in_all (state_held a).traces
  pub method_versions : a.method_versions ≡ method_versions_in_all (state_held a).methods
  pub room : IfSome a.room (HasRoom a)
