-- What the system holds: traces under their names in versions, methods with their drafts and frozen versions, and
-- sequences with their signatures. Versions and signatures are numbered from 1. This project's own.
use Rattle.std.specs.Prelude.{ℕ, ◌-◌, ◌==◌, Bool, List, [], Option, None, length, slice_get, option_map, unwrap_or, if◌then◌else◌}
use Rattle.std.specs.Option.{option_and_then}
use Rattle.cds_trace.specs.Signal.{Signal}
use Rattle.cds_base.specs.Named.{named}
use Rattle.cds_sign.specs.declared.sequence.Sequence.{Sequence}
use Rattle.cds_sign.specs.declared.signed.Signed.{Signed}

-- a trace name, and its versions in their order
pub record NamedTraces : Type 0 where
  pub name : List ℕ
  pub versions : List Signal

-- a method: its name, the text of its draft, and the frozen texts in their order
pub record NamedMethod : Type 0 where
  pub name : List ℕ
  pub draft : List ℕ
  pub versions : List (List ℕ)

-- a sequence: its name, what it is, and its signatures in their order
pub record NamedSequence : Type 0 where
  pub name : List ℕ
  pub sequence : Sequence
  pub signed : List Signed

-- the trace names, the methods and the sequences, each in byte order of the names
pub record TablesState : Type 0 where
  pub traces : List NamedTraces
  pub methods : List NamedMethod
  pub sequences : List NamedSequence

-- the tables that hold nothing
abbrev pub empty_tables : TablesState
empty_tables = record { traces = []; methods = []; sequences = [] }

-- the change for which room was taken: its kind, the name of what it changes, the sequence or the signature that it
-- makes, and for each sequence of the tables, in their order, whether its basis rises
pub data Room : Type 0 where
  trace_room : List ℕ → List Bool → Room
  draft_room : List ℕ → Room
  freeze_room : List ℕ → List Bool → Room
  sequence_room : List ℕ → Sequence → List Bool → Room
  sign_room : List ℕ → Signed → Room

-- what tables are seen as: what they hold, and for which change `reserve` took room
pub record TablesValue : Type 0 where
  pub state : TablesState
  pub room : Option Room

-- the version of this number, counted from 1
abbrev pub numbered : {X : Type 0} → List X → ℕ → Option X
numbered versions number = if number == 0 then None else slice_get versions (number - 1)

-- the version of the greatest number
abbrev pub latest : {X : Type 0} → List X → Option X
latest versions = slice_get versions (length versions - 1)

-- what stands under a trace name
abbrev pub traces_named : TablesState → List ℕ → Option NamedTraces
traces_named tables name = named (λ (e : NamedTraces). e.name) tables.traces name

-- what stands under a method's name
abbrev pub method_named : TablesState → List ℕ → Option NamedMethod
method_named tables name = named (λ (e : NamedMethod). e.name) tables.methods name

-- what stands under a sequence's name
abbrev pub sequence_named : TablesState → List ℕ → Option NamedSequence
sequence_named tables name = named (λ (e : NamedSequence). e.name) tables.sequences name

-- the versions of a trace name, none where there is no such name
unfoldable pub signals_of : TablesState → List ℕ → List Signal
signals_of tables name = unwrap_or (option_map (λ entry. entry.versions) (traces_named tables name)) []

-- the frozen texts of a method, none where there is no such method
unfoldable pub texts_of : TablesState → List ℕ → List (List ℕ)
texts_of tables name = unwrap_or (option_map (λ entry. entry.versions) (method_named tables name)) []

-- the version of a trace; none where the name or the version isn't there
unfoldable pub trace_of : TablesState → List ℕ → ℕ → Option Signal
trace_of tables name version = option_and_then (λ entry. numbered entry.versions version) (traces_named tables name)

-- how many versions a trace name has, which is the number of the latest; none where the name isn't there
unfoldable pub trace_versions_of : TablesState → List ℕ → Option ℕ
trace_versions_of tables name = option_map (λ entry. length entry.versions) (traces_named tables name)

-- the text of a method's draft; none where there is no such method
unfoldable pub draft_of : TablesState → List ℕ → Option (List ℕ)
draft_of tables name = option_map (λ entry. entry.draft) (method_named tables name)

-- the text of a method's version; none where the method or the version isn't there
unfoldable pub method_of : TablesState → List ℕ → ℕ → Option (List ℕ)
method_of tables name version = option_and_then (λ entry. numbered entry.versions version) (method_named tables name)

-- how many versions a method has; none where there is no such method
unfoldable pub method_versions_of : TablesState → List ℕ → Option ℕ
method_versions_of tables name = option_map (λ entry. length entry.versions) (method_named tables name)

-- the sequence of a name; none where there is no such sequence
unfoldable pub sequence_of : TablesState → List ℕ → Option Sequence
sequence_of tables name = option_map (λ entry. entry.sequence) (sequence_named tables name)

-- the sequence at a place in byte order of the names, counted from 0, with its name
abbrev pub sequence_at : TablesState → ℕ → Option (List ℕ × Sequence)
sequence_at tables i =
    option_map (λ (entry : NamedSequence). (entry.name, entry.sequence)) (slice_get tables.sequences i)

-- the signatures of a sequence, none where there is no such sequence
unfoldable pub signatures_of : TablesState → List ℕ → List Signed
signatures_of tables name = unwrap_or (option_map (λ entry. entry.signed) (sequence_named tables name)) []

-- the signature of this number; none where the sequence or the number isn't there
abbrev pub signed_of : TablesState → List ℕ → ℕ → Option Signed
signed_of tables name number = numbered (signatures_of tables name) number
