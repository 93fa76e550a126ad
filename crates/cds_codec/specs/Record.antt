-- The records of a change: a byte of the format, the byte of its kind, and its fields. A number stands with its high
-- byte first. This project's own form.
use Rattle.std.specs.Prelude.{◌≡◌, ℕ, ◌≤◌, ◌==◌, ◌⊎◌, ⊤, ℤ, Bool, List, [], ◌∷◌, ◌++◌, flat_map, length, Option, Some}
use Rattle.std.specs.Prelude.{None, if◌then◌else◌}
use Rattle.std.specs.Int.{w32, w64, to_be_bytes}
use Rattle.cds_base.specs.EventParts.{EventParts, event_parts}
use Rattle.cds_base.specs.declared.event.Event.{Event}
use Rattle.cds_trace.specs.Differences.{bytes_of_differences}
use Rattle.cds_trace.specs.SampleBytes.{bytes_of_sample}
use Rattle.cds_trace.specs.Signal.{Signal}
use Rattle.cds_trace.specs.declared.trace.TheConstants.{MOST_SAMPLES}
use Rattle.cds_sign.specs.Ranges.{IsChange}
use Rattle.cds_sign.specs.RowKinds.{kind_number}
use Rattle.cds_sign.specs.declared.command.Change.{Change}
use Rattle.cds_sign.specs.declared.command.Change.TheVariants as changes
use Rattle.cds_sign.specs.declared.row.Row.{Row}
use Rattle.cds_codec.specs.declared.format.TheConstants.{FIRST_FORMAT, FORMAT, MOST_FIRST_SAMPLES, TRACE, DRAFT, FREEZE}
use Rattle.cds_codec.specs.declared.format.TheConstants.{SEQUENCE, EVENTS, REBIND, SIGN}

-- a number in 32 bits, the high byte first
unfoldable pub bytes_of_32 : ℕ → List ℕ
bytes_of_32 n = to_be_bytes w32 n

-- a number in 64 bits, the high byte first
unfoldable pub bytes_of_64 : ℕ → List ℕ
bytes_of_64 n = to_be_bytes w64 n

-- a name: a byte with its length, and its bytes
abbrev pub bytes_of_name : List ℕ → List ℕ
bytes_of_name name = length name ∷ name

-- a text: its length in 32 bits, and its bytes
abbrev pub bytes_of_text : List ℕ → List ℕ
bytes_of_text text = bytes_of_32 (length text) ++ text

-- items of which there are at most 255: a byte with their number, and each of them
abbrev pub bytes_of_few : {A : Type 0} → (A → List ℕ) → List A → List ℕ
bytes_of_few spelled items = length items ∷ flat_map spelled items

-- items: their number in 32 bits, and each of them
abbrev pub bytes_of_many : {A : Type 0} → (A → List ℕ) → List A → List ℕ
bytes_of_many spelled items = bytes_of_32 (length items) ++ flat_map spelled items

-- the samples of a trace in a format: in the first one each of them in 32 bits, else the first one and the differences
abbrev pub bytes_of_samples : ℕ → List ℤ → List ℕ
bytes_of_samples format samples =
    if format == FIRST_FORMAT then bytes_of_many bytes_of_sample samples else bytes_of_differences samples

-- a trace in a format: its period in 64 bits, and its samples
abbrev pub bytes_of_signal : ℕ → Signal → List ℕ
bytes_of_signal format signal = bytes_of_64 signal.period ++ bytes_of_samples format signal.samples

-- an amount with its component: the name, and the amount in 32 bits
abbrev pub bytes_of_amount : List ℕ × ℕ → List ℕ
bytes_of_amount amount = bytes_of_name amount.0 ++ bytes_of_32 amount.1

-- three numbers, each in 32 bits
abbrev pub bytes_of_three : ℕ → ℕ → ℕ → List ℕ
bytes_of_three a b c = bytes_of_32 a ++ bytes_of_32 b ++ bytes_of_32 c

-- a kind of events in a byte, and its three numbers
abbrev pub bytes_of_parts : EventParts → List ℕ
bytes_of_parts parts = parts.kind ∷ bytes_of_three parts.first parts.second parts.third

-- an event: the byte of its kind, and three numbers, 0 where the kind has fewer
abbrev pub bytes_of_event : Event → List ℕ
bytes_of_event event = bytes_of_parts (event_parts event)

-- the byte of whether a row is used
abbrev pub byte_of_used : Bool → ℕ
byte_of_used used = if used then 1 else 0

-- a row: its label, the byte of its kind, its trace, the version in 32 bits, the byte of whether it is used, the two
-- parts of its dilution in 32 bits each, its amounts and its events
abbrev pub bytes_of_row : Row → List ℕ
bytes_of_row row =
    bytes_of_name row.label
    ++ kind_number row.kind ∷ bytes_of_name row.trace
    ++ bytes_of_32 row.version
    ++ byte_of_used row.used ∷ bytes_of_32 row.u
    ++ bytes_of_32 row.v
    ++ bytes_of_few bytes_of_amount row.amounts
    ++ bytes_of_few bytes_of_event row.events

-- a sequence that is put: the edition before in 64 bits, its method, the version in 32 bits, the names of the sequences
-- that it lists, and its rows
abbrev pub bytes_of_sequence : ℕ → List ℕ → ℕ → List (List ℕ) → List Row → List ℕ
bytes_of_sequence edition method version standards rows =
    bytes_of_64 edition
    ++ bytes_of_name method
    ++ bytes_of_32 version
    ++ bytes_of_few bytes_of_name standards
    ++ bytes_of_many bytes_of_row rows

-- the events of a row that are put: the edition before in 64 bits, the number of the row in 32 bits, and the events
abbrev pub bytes_of_put_events : ℕ → ℕ → List Event → List ℕ
bytes_of_put_events edition row events = bytes_of_64 edition ++ bytes_of_32 row ++ bytes_of_few bytes_of_event events

-- the numbers of a signature: its own in 32 bits, the basis and the moment in 64 bits each
abbrev pub bytes_of_numbers : ℕ → ℕ → ℕ → List ℕ
bytes_of_numbers number basis moment = bytes_of_32 number ++ bytes_of_64 basis ++ bytes_of_64 moment

-- the texts of a signature: who signs, what it means, and what is signed
abbrev pub bytes_of_texts : List ℕ → List ℕ → List ℕ → List ℕ
bytes_of_texts name meaning text = bytes_of_text name ++ bytes_of_text meaning ++ bytes_of_text text

-- the byte of the kind of a change
abbrev pub kind_of : Change → ℕ
kind_of (changes.Trace name signal) = TRACE
kind_of (changes.Draft name text) = DRAFT
kind_of (changes.Freeze name version) = FREEZE
kind_of (changes.Sequence name edition method version standards rows) = SEQUENCE
kind_of (changes.Events name edition row events) = EVENTS
kind_of (changes.Rebind name edition version) = REBIND
kind_of (changes.Sign sequence number basis moment name meaning text) = SIGN

-- the name of what is changed: of a trace, a method or a sequence
abbrev pub changed : Change → List ℕ
changed (changes.Trace name signal) = name
changed (changes.Draft name text) = name
changed (changes.Freeze name version) = name
changed (changes.Sequence name edition method version standards rows) = name
changed (changes.Events name edition row events) = name
changed (changes.Rebind name edition version) = name
changed (changes.Sign sequence number basis moment name meaning text) = sequence

-- the fields of a change in a format, behind the name of what is changed: of a freeze the version in 32 bits, of a
-- binding the edition before in 64 bits and the version in 32
abbrev pub fields_of : ℕ → Change → List ℕ
fields_of format (changes.Trace name signal) = bytes_of_signal format signal
fields_of format (changes.Draft name text) = bytes_of_text text
fields_of format (changes.Freeze name version) = bytes_of_32 version
fields_of format (changes.Sequence name edition method version standards rows) =
    bytes_of_sequence edition method version standards rows
fields_of format (changes.Events name edition row events) = bytes_of_put_events edition row events
fields_of format (changes.Rebind name edition version) = bytes_of_64 edition ++ bytes_of_32 version
fields_of format (changes.Sign sequence number basis moment name meaning text) =
    bytes_of_numbers number basis moment ++ bytes_of_texts name meaning text

-- the record of a change in a format: the byte of the format, that of the kind, the name of what is changed, the fields
abbrev pub record_in : ℕ → Change → List ℕ
record_in format change = format ∷ kind_of change ∷ bytes_of_name (changed change) ++ fields_of format change

-- the record of a change as it is written today
abbrev pub record_of : Change → List ℕ
record_of change = record_in FORMAT change

-- the text that a change carries, that of a draft or that of a signature; no other change carries one
abbrev pub carried_text : Change → List ℕ
carried_text (changes.Trace name signal) = []
carried_text (changes.Draft name text) = text
carried_text (changes.Freeze name version) = []
carried_text (changes.Sequence name edition method version standards rows) = []
carried_text (changes.Events name edition row events) = []
carried_text (changes.Rebind name edition version) = []
carried_text (changes.Sign sequence number basis moment name meaning text) = text

-- the most samples of a trace in a record of a format
abbrev pub most_samples_in : ℕ → ℕ
most_samples_in format = if format == FIRST_FORMAT then MOST_FIRST_SAMPLES else MOST_SAMPLES

-- a change has no more samples than a record of the format may have
abbrev pub StandsIn : ℕ → Change → Type 0
StandsIn format (changes.Trace name signal) = length signal.samples ≤ most_samples_in format
StandsIn format (changes.Draft name text) = ⊤
StandsIn format (changes.Freeze name version) = ⊤
StandsIn format (changes.Sequence name edition method version standards rows) = ⊤
StandsIn format (changes.Events name edition row events) = ⊤
StandsIn format (changes.Rebind name edition version) = ⊤
StandsIn format (changes.Sign sequence number basis moment name meaning text) = ⊤

-- a format of records: the first one, or that of today
abbrev pub IsFormat : ℕ → Type 0
IsFormat format = (format ≡ FIRST_FORMAT) ⊎ (format ≡ FORMAT)

-- the bytes are a record of the change, in one of the formats
pub record IsRecord (bytes : List ℕ) (change : Change) : Type 0 where
  pub format : ℕ
  pub known : IsFormat format
  pub possible : IsChange change
  pub stands : StandsIn format change
  pub spelled : bytes ≡ record_in format change

-- what the bytes state: the change whose record they are, or none, and then they are the record of no change
abbrev pub Reads : List ℕ → Option Change → Type 0
Reads bytes None = (change : Change) → IsRecord bytes change → ⊥
Reads bytes (Some change) = IsRecord bytes change

-- the record that is written today of the change that the bytes state, or none, and then they are that of no change
abbrev pub Converts : List ℕ → Option (List ℕ) → Type 0
Converts bytes None = Reads bytes None
Converts bytes (Some converted) = (change : Change) × IsRecord bytes change × (converted ≡ record_of change)
