-- What a command does to the tables: nothing, a change, or a refusal; and the tables after a change.
-- The rules and their order are this project's own.
use Rattle.std.specs.Prelude.{◌≡◌, ℕ, pos, ◌+◌, ◌-◌, ◌==◌, ◌&&◌, not, nat_lt, Bool, false, List, [], ◌∷◌, ◌++◌, Option, Some, None, Result, Ok, Err, length, map, option_map, set, ok_or, if◌then◌else◌}
use Rattle.std.specs.Cmp.Lexicographic.{pointwise}
use Rattle.std.specs.List.{find}
use Rattle.std.specs.Option.{option_map_or}
use Rattle.std.specs.Ordering.{int_eq}
use Rattle.std.specs.Str.{bytes_eq}
use Rattle.cds_base.specs.Answers.{◌>>=◌}
use Rattle.cds_base.specs.declared.event.Event.{Event}
use Rattle.cds_trace.specs.Signal.{Signal}
use Rattle.cds_base.specs.Named.{placed}
use Rattle.cds_sign.specs.Ranges.{IsAsked, IsChange}
use Rattle.cds_sign.specs.declared.asked.AskedRow.{AskedRow}
use Rattle.cds_sign.specs.declared.command.Change.{Change}
use Rattle.cds_sign.specs.declared.command.Change.TheVariants as change
use Rattle.cds_sign.specs.declared.command.Command.{Command}
use Rattle.cds_sign.specs.declared.command.Command.TheVariants as command
use Rattle.cds_sign.specs.declared.inputs.Inputs.{Inputs}
use Rattle.cds_sign.specs.declared.limits.TheConstants.{MOST_VERSIONS, MOST_SIGNATURES}
use Rattle.cds_sign.specs.declared.row.Row.{Row}
use Rattle.cds_sign.specs.declared.sequence.Sequence.{Sequence}
use Rattle.cds_sign.specs.declared.signed.Signed.{Signed}
use Rattle.cds_book.specs.Inputs.{bindings_of, inputs_in, inputs_of}
use Rattle.cds_book.specs.Judged.{must, method_judged, standards_judged, rows_judged, sequence_judged, edition_of, edition_judged, sign_judged, can_bind}
use Rattle.cds_book.specs.Same.{same_events, same_rows, same_inputs}
use Rattle.cds_book.specs.Tables.{NamedTraces, NamedMethod, NamedSequence, TablesState, Room, trace_room, draft_room, freeze_room, sequence_room, sign_room, numbered, latest, signals_of, texts_of, draft_of, sequence_of, signatures_of}
use Rattle.cds_book.specs.Kept.{IsMethod, trace_versions_in_all, samples_in_all, method_versions_in_all, rows_in_all, signed_bytes_in_all}
use Rattle.cds_book.specs.declared.command.Plan.{Plan}
use Rattle.cds_book.specs.declared.command.Plan.TheVariants as plan
use Rattle.cds_book.specs.declared.command.SignPlan.{SignPlan}
use Rattle.cds_book.specs.declared.command.SignPlan.TheVariants as sign
use Rattle.cds_book.specs.declared.error.PlanError.{PlanError}
use Rattle.cds_book.specs.declared.error.PlanError.TheVariants.{NoMethod, NoRow, NoVersion, Number, Full}
use Rattle.cds_book.specs.declared.limits.TheConstants.{MOST_TRACE_NAMES, MOST_TRACE_VERSIONS, MOST_SAMPLES_IN_ALL, MOST_METHODS, MOST_METHOD_VERSIONS, MOST_SEQUENCES, MOST_ROWS_IN_ALL, MOST_SIGNED_BYTES}

-- the tables with these versions of a trace
abbrev pub with_signals : TablesState → List ℕ → List Signal → TablesState
with_signals tables name versions =
    let entry : NamedTraces = record { name = name; versions = versions } in
    record tables { traces = placed (λ (e : NamedTraces). e.name) tables.traces entry }

-- the tables with this draft and these versions of a method
abbrev pub with_method : TablesState → List ℕ → List ℕ → List (List ℕ) → TablesState
with_method tables name draft versions =
    let entry : NamedMethod = record { name = name; draft = draft; versions = versions } in
    record tables { methods = placed (λ (e : NamedMethod). e.name) tables.methods entry }

-- the tables with the draft of a method as its next version, as before where there is no such method
abbrev pub with_frozen : TablesState → List ℕ → Option (List ℕ) → TablesState
with_frozen tables name None = tables
with_frozen tables name (Some draft) = with_method tables name draft (texts_of tables name ++ draft ∷ [])

-- the tables with this sequence and these signatures of it
abbrev pub with_sequence : TablesState → List ℕ → Sequence → List Signed → TablesState
with_sequence tables name sequence signed =
    let entry : NamedSequence = record { name = name; sequence = sequence; signed = signed } in
    record tables { sequences = placed (λ (e : NamedSequence). e.name) tables.sequences entry }

-- the tables with this sequence under the signatures that its name has, as before where there is none
abbrev pub with_changed : TablesState → List ℕ → Option Sequence → TablesState
with_changed tables name None = tables
with_changed tables name (Some sequence) = with_sequence tables name sequence (signatures_of tables name)

-- the rows with these manual events of the row of this number, counted from 1
abbrev pub with_events : List Row → ℕ → List Event → List Row
with_events rows row events =
    option_map_or (λ (r : Row). set rows (row - 1) (record r { events = events })) (numbered rows row) rows

-- the basis of a sequence, 1 where there is none
unfoldable pub basis_of : TablesState → List ℕ → ℕ
basis_of tables name = option_map_or (λ (s : Sequence). s.basis) (sequence_of tables name) 1

-- a sequence that is put: its edition is the next one, which is 1 for a new one, and so is the basis of a new one
abbrev pub sequence_put : TablesState → List ℕ → List ℕ → ℕ → List (List ℕ) → List Row → Sequence
sequence_put tables name method version standards rows = record {
  edition = edition_of tables name + 1;
  basis = basis_of tables name;
  method = method;
  version = version;
  standards = standards;
  rows = rows;
}

-- the sequence that a change makes, but for its basis; none where it makes none
unfoldable pub sequence_made : TablesState → Change → Option Sequence
sequence_made tables (change.Sequence name edition method version standards rows) =
    Some (sequence_put tables name method version standards rows)
sequence_made tables (change.Events name edition row events) =
    option_map
    (λ (s : Sequence). record s { edition = edition_of tables name + 1; rows = with_events s.rows row events })
    (sequence_of tables name)
sequence_made tables (change.Rebind name edition version) =
    option_map (λ (s : Sequence). record s { edition = edition_of tables name + 1; version = version })
    (sequence_of tables name)
sequence_made tables (change.Trace name signal) = None
sequence_made tables (change.Draft name text) = None
sequence_made tables (change.Freeze name version) = None
sequence_made tables (change.Sign sequence number basis moment name meaning text) = None

-- the tables with a signature behind those of its sequence, which keeps the inputs of now; as before where there is no
-- such sequence
abbrev pub with_signature : TablesState → List ℕ → (Inputs → Signed) → Option Sequence → TablesState
with_signature tables name signature None = tables
with_signature tables name signature (Some sequence) =
    with_sequence tables name sequence
    (signatures_of tables name ++ signature (inputs_in (bindings_of tables) sequence) ∷ [])

-- a signature over these inputs
abbrev pub signature : ℕ → ℕ → ℕ → List ℕ → List ℕ → List ℕ → Inputs → Signed
signature number basis moment name meaning text inputs = record {
  number = number;
  basis = basis;
  moment = moment;
  name = name;
  meaning = meaning;
  inputs = inputs;
  text = text;
}

-- the tables with a change carried out: a trace becomes the next version of its name, a text replaces the draft, a
-- freeze makes the draft the next version, a sequence is put, has other events or another version of its method, and a
-- signature stands behind the others of its sequence
abbrev pub carried : TablesState → Change → TablesState
carried tables (change.Trace name signal) = with_signals tables name (signals_of tables name ++ signal ∷ [])
carried tables (change.Draft name text) = with_method tables name text (texts_of tables name)
carried tables (change.Freeze name version) = with_frozen tables name (draft_of tables name)
carried tables (change.Sequence name edition method version standards rows) =
    with_changed tables name (sequence_made tables (change.Sequence name edition method version standards rows))
carried tables (change.Events name edition row events) =
    with_changed tables name (sequence_made tables (change.Events name edition row events))
carried tables (change.Rebind name edition version) =
    with_changed tables name (sequence_made tables (change.Rebind name edition version))
carried tables (change.Sign sequence number basis moment name meaning text) =
    with_signature tables sequence (signature number basis moment name meaning text) (sequence_of tables sequence)

-- whether inputs that were there are now others
abbrev pub are_others : Option Inputs → Option Inputs → Bool
are_others (Some before) (Some after) = not (same_inputs before after)
are_others (Some before) None = false
are_others None after = false

-- whether a sequence was there before, and its inputs differ from those after
unfoldable pub inputs_differ : TablesState → TablesState → List ℕ → Bool
inputs_differ before after name = are_others (inputs_of before name) (inputs_of after name)

-- a sequence whose basis rises by one, or stays
abbrev pub raised : Bool → NamedSequence → NamedSequence
raised rises entry = record entry {
  sequence = record entry.sequence { basis = entry.sequence.basis + (if rises then 1 else 0) };
}

-- the tables in which the basis of each sequence rises by one that was there before and whose inputs are now others
abbrev pub rebased : TablesState → TablesState → TablesState
rebased before after = record after {
  sequences = map (λ (e : NamedSequence). raised (inputs_differ before after e.name) e) after.sequences;
}

-- the tables after a change
unfoldable pub applied : TablesState → Change → TablesState
applied tables change = rebased tables (carried tables change)

-- the tables after a change, if there is one
abbrev pub with_change : TablesState → Option Change → TablesState
with_change tables None = tables
with_change tables (Some change) = applied tables change

-- the counts that a change may raise, of the tables after it, each with its limit, in the order of judging
abbrev pub counts_of : Change → TablesState → List (ℕ × ℕ)
counts_of (change.Trace name signal) tables =
    (length tables.traces, MOST_TRACE_NAMES)
    ∷ (length (signals_of tables name), MOST_VERSIONS)
    ∷ (trace_versions_in_all tables.traces, MOST_TRACE_VERSIONS)
    ∷ (samples_in_all tables.traces, MOST_SAMPLES_IN_ALL)
    ∷ []
counts_of (change.Draft name text) tables = (length tables.methods, MOST_METHODS) ∷ []
counts_of (change.Freeze name version) tables =
    (length (texts_of tables name), MOST_VERSIONS)
    ∷ (method_versions_in_all tables.methods, MOST_METHOD_VERSIONS)
    ∷ []
counts_of (change.Sequence name edition method version standards rows) tables =
    (length tables.sequences, MOST_SEQUENCES)
    ∷ (rows_in_all tables.sequences, MOST_ROWS_IN_ALL)
    ∷ []
counts_of (change.Events name edition row events) tables = []
counts_of (change.Rebind name edition version) tables = []
counts_of (change.Sign sequence number basis moment name meaning text) tables =
    (length (signatures_of tables sequence), MOST_SIGNATURES)
    ∷ (signed_bytes_in_all tables.sequences, MOST_SIGNED_BYTES)
    ∷ []

-- the first limit that a count passes
abbrev pub limit_passed : List (ℕ × ℕ) → Option ℕ
limit_passed counts = option_map (λ (c : ℕ × ℕ). c.1) (find (λ (c : ℕ × ℕ). nat_lt c.1 c.0) counts)

-- a change, unless a limit is passed
abbrev pub unless_full : Option ℕ → Change → Result Plan PlanError
unless_full None change = Ok (plan.Change change)
unless_full (Some limit) change = Err (Full limit)

-- a change is planned where the tables with it pass no limit; else the first limit that they pass is the refusal
abbrev pub within_limits : TablesState → Change → Result Plan PlanError
within_limits tables change = unless_full (limit_passed (counts_of change (carried tables change))) change

-- two traces are equal: their periods and their samples are the same
abbrev pub same_signal : Signal → Signal → Bool
same_signal a b = (a.period == b.period) && pointwise int_eq a.samples b.samples

-- whether this is the latest of the versions
abbrev pub is_latest : {X : Type 0} → (X → X → Bool) → List X → X → Bool
is_latest same versions x = option_map_or (λ version. same version x) (latest versions) false

-- what a freeze is answered: a name without a draft is no method; nothing changes where the latest version is the
-- draft, whatever number is named; else the number must be the next one
abbrev pub freeze_planned : TablesState → List ℕ → ℕ → Option (List ℕ) → Result Plan PlanError
freeze_planned tables name version None = Err (NoMethod name)
freeze_planned tables name version (Some draft) =
    if is_latest bytes_eq (texts_of tables name) draft then Ok plan.Unchanged
    else if version == length (texts_of tables name) + 1 then within_limits tables (change.Freeze name version)
    else Err (Number (length (texts_of tables name) + 1))

-- whether a sequence has this content: the binding of its method, the sequences that it lists in order, and its rows
abbrev pub has_content : List ℕ → ℕ → List (List ℕ) → List Row → Sequence → Bool
has_content method version standards rows s =
    bytes_eq s.method method && ((s.version == version)
    && (pointwise bytes_eq s.standards standards && same_rows s.rows rows))

-- whether the sequence of a name is there and has this content
unfoldable pub is_kept : TablesState → List ℕ → List ℕ → ℕ → List (List ℕ) → List Row → Bool
is_kept tables name method version standards rows =
    option_map_or (has_content method version standards rows) (sequence_of tables name) false

-- another sequence than the kept one: the edition that was seen is judged, and then the limits
abbrev pub other_planned : TablesState → List ℕ → ℕ → Change → Result Plan PlanError
other_planned tables name edition change = do
  _ ← edition_judged tables name edition
  within_limits tables change

-- what a sequence that is put is answered: its method and the version of it are judged, the sequences that it lists in
-- their order, and then its rows in theirs; nothing changes where the kept one has the same content
unfoldable pub sequence_planned : TablesState → List ℕ → ℕ → List ℕ → ℕ → List (List ℕ) → List AskedRow →
    Result Plan PlanError
sequence_planned tables name edition method version standards asked = do
  _ ← method_judged tables method version
  listed ← standards_judged tables name standards
  rows ← rows_judged tables asked
  if is_kept tables name method version listed rows then Ok plan.Unchanged
      else other_planned tables name edition (change.Sequence name edition method version listed rows)

-- the row of a sequence of this number, counted from 1, which the path names
unfoldable pub row_at : Sequence → ℕ → Result Row PlanError
row_at s row = ok_or (numbered s.rows row) (NoRow row)

-- what events of a row are answered: the sequence and the row must be there; equal events change nothing
unfoldable pub events_planned : TablesState → List ℕ → ℕ → ℕ → List Event → Result Plan PlanError
events_planned tables name edition row events = do
  s ← sequence_judged tables name
  r ← row_at s row
  if same_events r.events events then Ok plan.Unchanged
      else other_planned tables name edition (change.Events name edition row events)

-- what another version of a sequence's method is answered: the sequence and the version must be there; an equal binding
-- changes nothing
unfoldable pub rebind_planned : TablesState → List ℕ → ℕ → ℕ → Result Plan PlanError
rebind_planned tables name edition version = do
  s ← sequence_judged tables name
  _ ← must (NoVersion s.method) (can_bind (length (texts_of tables s.method)) version)
  if s.version == version then Ok plan.Unchanged
      else other_planned tables name edition (change.Rebind name edition version)

-- a kept signature changes nothing, a new one is judged by the limits
abbrev pub sign_planned : TablesState → Change → SignPlan → Result Plan PlanError
sign_planned tables change (sign.Kept number) = Ok plan.Unchanged
sign_planned tables change sign.New = within_limits tables change

-- what a signature is answered
unfoldable pub signature_planned : TablesState → List ℕ → ℕ → ℕ → ℕ → List ℕ → List ℕ → List ℕ → Result Plan PlanError
signature_planned tables sequence number basis moment name meaning text = do
  judged ← sign_judged tables sequence basis number name meaning
  sign_planned tables (change.Sign sequence number basis moment name meaning text) judged

-- what a command is answered: a trace equal to the latest version of its name and a text equal to the draft change
-- nothing
unfoldable pub planned : TablesState → Command → Result Plan PlanError
planned tables (command.Trace name signal) =
    if is_latest same_signal (signals_of tables name) signal then Ok plan.Unchanged
    else within_limits tables (change.Trace name signal)
planned tables (command.Draft name text) =
    if option_map_or (λ draft. bytes_eq draft text) (draft_of tables name) false then Ok plan.Unchanged
    else within_limits tables (change.Draft name text)
planned tables (command.Freeze name version) = freeze_planned tables name version (draft_of tables name)
planned tables (command.Sequence name edition method version standards rows) =
    sequence_planned tables name edition method version standards rows
planned tables (command.Events name edition row events) = events_planned tables name edition row events
planned tables (command.Rebind name edition version) = rebind_planned tables name edition version
planned tables (command.Sign sequence number basis moment name meaning text) =
    signature_planned tables sequence number basis moment name meaning text

-- a command that may be planned: its numbers, counts, names and texts are in their ranges, and the text of a draft is a
-- method
abbrev pub IsCommand : Command → Type 0
IsCommand c = IsAsked c × DraftIsMethod c
  where
    DraftIsMethod : Command → Type 0
    DraftIsMethod (command.Draft name text) = IsMethod text
    DraftIsMethod (command.Trace name signal) = Unit {0}
    DraftIsMethod (command.Freeze name version) = Unit {0}
    DraftIsMethod (command.Sequence name edition method version standards rows) = Unit {0}
    DraftIsMethod (command.Events name edition row events) = Unit {0}
    DraftIsMethod (command.Rebind name edition version) = Unit {0}
    DraftIsMethod (command.Sign sequence number basis moment name meaning text) = Unit {0}

-- a row as it is asked
abbrev pub asked_of : Row → AskedRow
asked_of r = record {
  label = r.label;
  kind = r.kind;
  trace = r.trace;
  version = r.version;
  used = r.used;
  u = r.u;
  v = r.v;
  amounts = map (λ (a : List ℕ × ℕ). (a.0, pos a.1)) r.amounts;
  events = r.events;
}

-- the command that asks for a change
abbrev pub command_of : Change → Command
command_of (change.Trace name signal) = command.Trace name signal
command_of (change.Draft name text) = command.Draft name text
command_of (change.Freeze name version) = command.Freeze name version
command_of (change.Sequence name edition method version standards rows) =
    command.Sequence name edition method version standards (map asked_of rows)
command_of (change.Events name edition row events) = command.Events name edition row events
command_of (change.Rebind name edition version) = command.Rebind name edition version
command_of (change.Sign sequence number basis moment name meaning text) =
    command.Sign sequence number basis moment name meaning text

-- the name of the trace that a change changes, if it changes one
abbrev pub trace_changed : Change → Option (List ℕ)
trace_changed (change.Trace name signal) = Some name
trace_changed (change.Draft name text) = None
trace_changed (change.Freeze name version) = None
trace_changed (change.Sequence name edition method version standards rows) = None
trace_changed (change.Events name edition row events) = None
trace_changed (change.Rebind name edition version) = None
trace_changed (change.Sign sequence number basis moment name meaning text) = None

-- the name of the method that a change changes, if it changes one
abbrev pub method_changed : Change → Option (List ℕ)
method_changed (change.Trace name signal) = None
method_changed (change.Draft name text) = Some name
method_changed (change.Freeze name version) = Some name
method_changed (change.Sequence name edition method version standards rows) = None
method_changed (change.Events name edition row events) = None
method_changed (change.Rebind name edition version) = None
method_changed (change.Sign sequence number basis moment name meaning text) = None

-- the name of the sequence that a change makes other, if it makes one; a signature leaves it
abbrev pub sequence_changed : Change → Option (List ℕ)
sequence_changed (change.Trace name signal) = None
sequence_changed (change.Draft name text) = None
sequence_changed (change.Freeze name version) = None
sequence_changed (change.Sequence name edition method version standards rows) = Some name
sequence_changed (change.Events name edition row events) = Some name
sequence_changed (change.Rebind name edition version) = Some name
sequence_changed (change.Sign sequence number basis moment name meaning text) = None

-- the change is one that is planned on these tables
pub record Accepts (tables : TablesState) (change : Change) : Type 0 where
  pub command : IsCommand (command_of change)
  pub accepted : planned tables (command_of change) ≡ Ok (plan.Change change)

-- a change that is answered is one that is planned on these tables
abbrev pub AnswersAccepted : TablesState → Result Plan PlanError → Type 0
AnswersAccepted tables (Ok (plan.Change change)) = Accepts tables change
AnswersAccepted tables (Ok plan.Unchanged) = Unit {0}
AnswersAccepted tables (Err e) = Unit {0}

-- a change that is answered is one whose parts are in their ranges
abbrev pub PlansContent : Result Plan PlanError → Type 0
PlansContent (Ok (plan.Change change)) = IsChange change
PlansContent (Ok plan.Unchanged) = Unit {0}
PlansContent (Err e) = Unit {0}

-- for each sequence of the tables, in their order, whether its basis rises
abbrev pub rises_of : TablesState → Change → List Bool
rises_of tables change =
    map (λ (e : NamedSequence). inputs_differ tables (carried tables change) e.name) tables.sequences

-- the room of a change that makes this sequence, which stands there with its new basis
abbrev pub made_room : TablesState → Change → List ℕ → Option Sequence → Option Room
made_room tables change name None = None
made_room tables change name (Some s) =
    let rises = inputs_differ tables (carried tables change) name in
    Some (sequence_room name (record s { basis = s.basis + (if rises then 1 else 0) }) (rises_of tables change))

-- the room that a change needs; none where it is no change of these tables
unfoldable pub room_of : TablesState → Change → Option Room
room_of tables (change.Trace name signal) = Some (trace_room name (rises_of tables (change.Trace name signal)))
room_of tables (change.Draft name text) = Some (draft_room name)
room_of tables (change.Freeze name version) = Some (freeze_room name (rises_of tables (change.Freeze name version)))
room_of tables (change.Sequence name edition method version standards rows) =
    made_room tables (change.Sequence name edition method version standards rows) name
    (sequence_made tables (change.Sequence name edition method version standards rows))
room_of tables (change.Events name edition row events) =
    made_room tables (change.Events name edition row events) name
    (sequence_made tables (change.Events name edition row events))
room_of tables (change.Rebind name edition version) =
    made_room tables (change.Rebind name edition version) name
    (sequence_made tables (change.Rebind name edition version))
room_of tables (change.Sign sequence number basis moment name meaning text) =
    option_map
    (λ s. sign_room sequence (signature number basis moment name meaning text (inputs_in (bindings_of tables) s)))
    (sequence_of tables sequence)
