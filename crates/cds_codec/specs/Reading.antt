-- How the fields of a record are read from left to right, for the private functions that read them: a field is a value
-- and the bytes behind it, or there is none. No public clause names these definitions: that what is read is a record,
-- and that each record is read, is said over `Record`, in which the grammar of records stands.
use Rattle.std.specs.Prelude.{ℕ, zero, suc, ◌+◌, ◌-◌, ◌*◌, ◌/◌, ◌%◌, ◌==◌, ◌||◌, ◌&&◌, not, nat_lt, Bool, true, false}
use Rattle.std.specs.Prelude.{ℤ, pos, negsuc, ◌+ℤ◌, List, [], ◌∷◌, ◌++◌, length, take, drop, Option, Some, None, Result}
use Rattle.std.specs.Prelude.{Ok, Err, if◌then◌else◌}
use Rattle.std.specs.Int.{Width, w32, w64, byte_len, from_be_bytes, cast_signed}
use Rattle.std.specs.List.{find, list_all}
use Rattle.std.specs.Ordering.{is_lt}
use Rattle.std.specs.Str.{bytes_eq}
use Rattle.cds_base.specs.EventParts.{event_parts}
use Rattle.cds_base.specs.EventRange.{is_event}
use Rattle.cds_base.specs.NameText.{name_of}
use Rattle.cds_base.specs.Named.{byte_cmp}
use Rattle.cds_base.specs.declared.clock.TheConstants.{MOMENT_LIMIT}
use Rattle.cds_base.specs.declared.event.Event.{Event}
use Rattle.cds_base.specs.declared.event.Event.TheVariants as timed
use Rattle.cds_base.specs.declared.event.TheConstants.{MOST_EVENTS}
use Rattle.cds_trace.specs.GivenSamples.{given_trace}
use Rattle.cds_trace.specs.Signal.{Signal}
use Rattle.cds_trace.specs.TraceText.{is_sample}
use Rattle.cds_trace.specs.declared.differences.TheConstants.{SEVEN_BITS}
use Rattle.cds_trace.specs.declared.error.TraceError.{TraceError}
use Rattle.cds_sign.specs.Printed.{is_printed}
use Rattle.cds_sign.specs.RowKinds.{kind_number}
use Rattle.cds_sign.specs.declared.command.Change.{Change}
use Rattle.cds_sign.specs.declared.command.Change.TheVariants as changes
use Rattle.cds_base.specs.declared.limits.TheConstants.{MOST_AMOUNT}
use Rattle.cds_sign.specs.declared.limits.TheConstants.{MOST_ROWS, MOST_STANDARDS, MOST_AMOUNTS, MOST_VERSIONS}
use Rattle.cds_sign.specs.declared.limits.TheConstants.{MOST_DILUTION, MOST_EDITION, MOST_BASIS, MOST_SIGNATURES}
use Rattle.cds_sign.specs.declared.row.Row.{Row}
use Rattle.cds_sign.specs.declared.row.RowKind.{RowKind}
use Rattle.cds_sign.specs.declared.row.RowKind.TheVariants as kinds
use Rattle.cds_codec.specs.Record.{most_samples_in}
use Rattle.cds_codec.specs.declared.format.TheConstants.{FIRST_FORMAT, FORMAT, TRACE, DRAFT, FREEZE, SEQUENCE, EVENTS}
use Rattle.cds_codec.specs.declared.format.TheConstants.{REBIND, SIGN}
use Rattle.cds_codec.specs.declared.rows.RowFront.{RowFront}
use Rattle.cds_codec.specs.declared.samples.TheConstants.{MOST_SEVENS}

-- a value and the bytes behind it, if it is there
abbrev pub Taken : Type 0 → Type 0
Taken A = Option (A × List ℕ)

-- a field, and then what follows with it, where it is there
infixl 10 ◌>>=◌
abbrev pub ◌>>=◌ : {A B : Type 0} → Option A → (A → Option B) → Option B
Some x >>= f = f x
None >>= f = None

-- two fields, one behind the other
abbrev pub both : {A B : Type 0} → (List ℕ → Taken A) → (List ℕ → Taken B) → List ℕ → Taken (A × B)
both first second bytes = first bytes >>= λ x. second x.1 >>= λ y. Some ((x.0, y.0), y.1)

-- a field by what it states, where it states something
abbrev pub through : {A B : Type 0} → (A → Option B) → (List ℕ → Taken A) → List ℕ → Taken B
through f field bytes = field bytes >>= λ x. f x.0 >>= λ y. Some (y, x.1)

-- a number, and then so many of something
abbrev pub counted : {A : Type 0} → (List ℕ → Taken ℕ) → (ℕ → List ℕ → Taken A) → List ℕ → Taken A
counted count items bytes = count bytes >>= λ n. items n.0 n.1

-- a value that passes a test
abbrev pub passing : {A : Type 0} → (A → Bool) → A → Option A
passing test x = if test x then Some x else None

-- a number from one to another, both included
abbrev pub within : ℕ → ℕ → ℕ → Option ℕ
within least most n = if nat_lt n least || nat_lt most n then None else Some n

-- a byte
abbrev pub byte_at : List ℕ → Taken ℕ
byte_at [] = None
byte_at (byte ∷ rest) = Some (byte, rest)

-- so many bytes
abbrev pub bytes_at : ℕ → List ℕ → Taken (List ℕ)
bytes_at count bytes = if nat_lt (length bytes) count then None else Some (take count bytes, drop count bytes)

-- a number of this width, the high byte first
abbrev pub number_at : Width → List ℕ → Taken ℕ
number_at w bytes =
    if nat_lt (length bytes) (byte_len w) then None
    else Some (from_be_bytes w (take (byte_len w) bytes), drop (byte_len w) bytes)

-- a byte from one number to another
unfoldable pub byte_in : ℕ → ℕ → List ℕ → Taken ℕ
byte_in least most bytes = through (within least most) byte_at bytes

-- a number of this width from one to another
unfoldable pub number_in : Width → ℕ → ℕ → List ℕ → Taken ℕ
number_in w least most bytes = through (within least most) (number_at w) bytes

-- so many items
unfoldable pub items_at : {A : Type 0} → (List ℕ → Taken A) → ℕ → List ℕ → Taken (List A)
items_at item zero bytes = Some ([], bytes)
items_at item (suc count) bytes = do
  first ← item bytes
  rest ← items_at item count first.1
  Some (first.0 ∷ rest.0, rest.1)

-- a name behind its length
unfoldable pub name_at : List ℕ → Taken (List ℕ)
name_at bytes = through name_of (counted byte_at bytes_at) bytes

-- a text behind its length
unfoldable pub text_at : List ℕ → Taken (List ℕ)
text_at bytes = counted (number_at w32) bytes_at bytes

-- what the name or the meaning of a signature may be
unfoldable pub printed_at : List ℕ → Taken (List ℕ)
printed_at bytes = through (passing is_printed) text_at bytes

-- a byte with its high bit set, and the number of the bits behind it, which isn't 0
abbrev pub with_sevens : ℕ → ℕ × List ℕ → Taken ℕ
with_sevens byte high = if high.0 == 0 then None else Some (byte - SEVEN_BITS + SEVEN_BITS * high.0, high.1)

-- a number in at most so many bytes of 7 bits, none of them needless
unfoldable pub sevens_at : ℕ → List ℕ → Taken ℕ
sevens_at turns [] = None
sevens_at zero (byte ∷ rest) = None
sevens_at (suc turns) (byte ∷ rest) =
    if nat_lt byte SEVEN_BITS then Some (byte, rest) else (sevens_at turns rest >>= with_sevens byte)

-- the difference that is this whole number: half of it, or half of the next one below 0
abbrev pub difference_of : ℕ → ℤ
difference_of n = if n % 2 == 0 then pos (n / 2) else negsuc (n / 2)

-- a sample in 32 bits
unfoldable pub sample_at : List ℕ → Taken ℤ
sample_at bytes = through (λ bits. passing is_sample (cast_signed w32 bits)) (number_at w32) bytes

-- the sample that is so far above another one, if it may be a sample
unfoldable pub moved : ℤ → ℤ → Option ℤ
moved before difference = passing is_sample (before +ℤ difference)

-- the sample behind one, by its difference to it
unfoldable pub next_at : ℤ → List ℕ → Taken ℤ
next_at before bytes = through (λ number. moved before (difference_of number)) (sevens_at MOST_SEVENS) bytes

-- so many samples behind one, by their differences
unfoldable pub behind_at : ℕ → ℤ → List ℕ → Taken (List ℤ)
behind_at zero before bytes = Some ([], bytes)
behind_at (suc count) before bytes = do
  sample ← next_at before bytes
  rest ← behind_at count sample.0 sample.1
  Some (sample.0 ∷ rest.0, rest.1)

-- these values, and then those that are read
abbrev pub with_front : {A : Type 0} → List A → Taken (List A) → Taken (List A)
with_front front read = read >>= λ x. Some (front ++ x.0, x.1)

-- a sample, and so many behind it by their differences
abbrev pub samples_from : ℕ → ℤ → List ℕ → Taken (List ℤ)
samples_from count first bytes = with_front (first ∷ []) (behind_at count first bytes)

-- so many samples, the first one and then the differences
unfoldable pub differences_at : ℕ → List ℕ → Taken (List ℤ)
differences_at zero bytes = Some ([], bytes)
differences_at (suc count) bytes = do
  first ← sample_at bytes
  samples_from count first.0 first.1

-- so many samples of a format
unfoldable pub samples_at : ℕ → ℕ → List ℕ → Taken (List ℤ)
samples_at format count bytes =
    if format == FIRST_FORMAT then items_at sample_at count bytes else differences_at count bytes

-- a value that wasn't refused
abbrev pub accepted : Result Signal TraceError → Option Signal
accepted (Ok signal) = Some signal
accepted (Err e) = None

-- a period and samples
unfoldable pub signal_at : ℕ → List ℕ → Taken Signal
signal_at format bytes =
    through (λ s. accepted (given_trace s.0 s.1))
    (both (number_at w64) (counted (number_in w32 0 (most_samples_in format)) (samples_at format))) bytes

-- an amount with its component
unfoldable pub amount_at : List ℕ → Taken (List ℕ × ℕ)
amount_at bytes = both name_at (number_in w32 1 MOST_AMOUNT) bytes

-- each item is before each later one
unfoldable pub in_pairs : {A : Type 0} → (A → A → Bool) → List A → Bool
in_pairs test [] = true
in_pairs test (x ∷ xs) = list_all (test x) xs && in_pairs test xs

-- one name is before another in byte order
abbrev pub is_before : List ℕ → List ℕ → Bool
is_before a b = is_lt (byte_cmp a b)

-- one name is another one
abbrev pub is_other : List ℕ → List ℕ → Bool
is_other a b = not (bytes_eq a b)

-- the names of amounts rise
abbrev pub are_rising : List (List ℕ × ℕ) → Bool
are_rising amounts = in_pairs (λ a b. is_before a.0 b.0) amounts

-- no name stands twice
abbrev pub are_different : List (List ℕ) → Bool
are_different names = in_pairs is_other names

-- amounts behind their number, whose names rise
unfoldable pub amounts_at : List ℕ → Taken (List (List ℕ × ℕ))
amounts_at bytes = through (passing are_rising) (counted (byte_in 0 MOST_AMOUNTS) (items_at amount_at)) bytes

-- an event is of this kind and has these three numbers
abbrev pub has_parts : ℕ → ℕ → ℕ → ℕ → Event → Bool
has_parts kind a b c event =
    ((event_parts event).kind == kind)
    && (((event_parts event).first == a) && (((event_parts event).second == b) && ((event_parts event).third == c)))

-- an event of each kind with as many of these numbers as it has
abbrev pub events_with : ℕ → ℕ → ℕ → List Event
events_with a b c =
    timed.Inhibit a b ∷ timed.Valley a b ∷ timed.Drop a ∷ timed.Baseline a b ∷ timed.Slope a b c ∷ timed.Skim a b ∷ []

-- the event of a kind and three numbers, where there is one
abbrev pub event_of : ℕ → ℕ → ℕ → ℕ → Option Event
event_of kind a b c = find (has_parts kind a b c) (events_with a b c)

-- the event in its ranges of a kind and three numbers, where there is one
abbrev pub ranged_event_of : ℕ × (ℕ × (ℕ × ℕ)) → Option Event
ranged_event_of e = event_of e.0 e.1.0 e.1.1.0 e.1.1.1 >>= λ e. passing is_event e

-- the byte of a kind, and three numbers
abbrev pub kind_and_three_at : List ℕ → Taken (ℕ × (ℕ × (ℕ × ℕ)))
kind_and_three_at bytes = both byte_at (both (number_at w32) (both (number_at w32) (number_at w32))) bytes

-- an event
unfoldable pub event_at : List ℕ → Taken Event
event_at bytes = through ranged_event_of kind_and_three_at bytes

-- events behind their number
unfoldable pub events_at : List ℕ → Taken (List Event)
events_at bytes = counted (byte_in 0 MOST_EVENTS) (items_at event_at) bytes

-- the kinds of rows
abbrev pub row_kinds : List RowKind
row_kinds = kinds.Blank ∷ kinds.Standard ∷ kinds.Replicate ∷ kinds.Sample ∷ []

-- what a row is injected for, by its number
abbrev pub row_kind_of : ℕ → Option RowKind
row_kind_of byte = find (λ kind. kind_number kind == byte) row_kinds

-- whether a row is used, by its byte
abbrev pub used_of : ℕ → Option Bool
used_of byte = if byte == 0 then Some false else if byte == 1 then Some true else None

-- the byte of what a row is injected for
unfoldable pub row_kind_at : List ℕ → Taken RowKind
row_kind_at bytes = through row_kind_of byte_at bytes

-- the byte of whether a row is used
unfoldable pub used_at : List ℕ → Taken Bool
used_at bytes = through used_of byte_at bytes

-- a version, or 0
abbrev pub bound_at : List ℕ → Taken ℕ
bound_at bytes = number_in w32 0 MOST_VERSIONS bytes

-- a part of a dilution
abbrev pub part_at : List ℕ → Taken ℕ
part_at bytes = number_in w32 1 MOST_DILUTION bytes

-- the edition before a change
abbrev pub edition_at : List ℕ → Taken ℕ
edition_at bytes = number_in w64 0 MOST_EDITION bytes

-- the fields of a row before its amounts
unfoldable pub row_front_at : List ℕ → Taken RowFront
row_front_at bytes =
    through
    (λ f. Some (record {
      label = f.0;
      kind = f.1.0;
      trace = f.1.1.0;
      version = f.1.1.1.0;
      used = f.1.1.1.1.0;
      u = f.1.1.1.1.1.0;
      v = f.1.1.1.1.1.1;
    }))
    (both name_at (both row_kind_at (both name_at (both bound_at (both used_at (both part_at part_at)))))) bytes

-- a row of its front, its amounts and its events
abbrev pub row_of : RowFront × (List (List ℕ × ℕ) × List Event) → Row
row_of f = record {
  label = f.0.label;
  kind = f.0.kind;
  trace = f.0.trace;
  version = f.0.version;
  used = f.0.used;
  u = f.0.u;
  v = f.0.v;
  amounts = f.1.0;
  events = f.1.1;
}

-- a row
unfoldable pub row_at : List ℕ → Taken Row
row_at bytes = through (λ f. Some (row_of f)) (both row_front_at (both amounts_at events_at)) bytes

-- the names of listed sequences behind their number, none of them twice
unfoldable pub standards_at : List ℕ → Taken (List (List ℕ))
standards_at bytes = through (passing are_different) (counted (byte_in 1 MOST_STANDARDS) (items_at name_at)) bytes

-- rows behind their number
unfoldable pub rows_at : List ℕ → Taken (List Row)
rows_at bytes = counted (number_in w32 1 MOST_ROWS) (items_at row_at) bytes

-- a sequence that is put, behind its name
unfoldable pub sequence_at : List ℕ → List ℕ → Taken Change
sequence_at name bytes =
    through (λ f. Some (changes.Sequence name f.0 f.1.0 f.1.1.0 f.1.1.1.0 f.1.1.1.1))
    (both edition_at (both name_at (both bound_at (both standards_at rows_at)))) bytes

-- the events of a row that are put, behind the name of the sequence
unfoldable pub put_events_at : List ℕ → List ℕ → Taken Change
put_events_at name bytes =
    through (λ f. Some (changes.Events name f.0 f.1.0 f.1.1))
    (both edition_at (both (number_in w32 1 MOST_ROWS) events_at)) bytes

-- another version of a sequence's method, behind the name of the sequence
unfoldable pub rebind_at : List ℕ → List ℕ → Taken Change
rebind_at name bytes = through (λ f. Some (changes.Rebind name f.0 f.1)) (both edition_at bound_at) bytes

-- the number of a signature, the basis and the moment
unfoldable pub sign_front_at : List ℕ → Taken (ℕ × ℕ × ℕ)
sign_front_at bytes =
    through (λ f. Some (f.0, f.1.0, f.1.1))
    (both (number_in w32 1 MOST_SIGNATURES)
    (both (number_in w64 1 MOST_BASIS) (number_in w64 0 (MOMENT_LIMIT - 1)))) bytes

-- a signature, behind the name of the sequence
unfoldable pub sign_at : List ℕ → List ℕ → Taken Change
sign_at sequence bytes =
    through (λ f. Some (changes.Sign sequence f.0.0 f.0.1 f.0.2 f.1.0 f.1.1.0 f.1.1.1))
    (both sign_front_at (both printed_at (both printed_at text_at))) bytes

-- a trace that is put, behind its name
unfoldable pub trace_at : ℕ → List ℕ → List ℕ → Taken Change
trace_at format name bytes = through (λ signal. Some (changes.Trace name signal)) (signal_at format) bytes

-- a draft that is put, behind its name
unfoldable pub draft_at : List ℕ → List ℕ → Taken Change
draft_at name bytes = through (λ text. Some (changes.Draft name text)) text_at bytes

-- a version that is frozen, behind the name of the method
unfoldable pub freeze_at : List ℕ → List ℕ → Taken Change
freeze_at name bytes = through (λ version. Some (changes.Freeze name version)) (number_in w32 1 MOST_VERSIONS) bytes

-- the change of a kind, behind the name of what is changed
unfoldable pub change_at : ℕ → ℕ → List ℕ → List ℕ → Taken Change
change_at format kind name bytes =
    if kind == TRACE then trace_at format name bytes
    else if kind == DRAFT then draft_at name bytes
    else if kind == FREEZE then freeze_at name bytes
    else if kind == SEQUENCE then sequence_at name bytes
    else if kind == EVENTS then put_events_at name bytes
    else if kind == REBIND then rebind_at name bytes
    else if kind == SIGN then sign_at name bytes
    else None

-- the value of a field behind which nothing follows
abbrev pub whole : {A : Type 0} → Taken A → Option A
whole None = None
whole (Some (x, [])) = Some x
whole (Some (x, byte ∷ rest)) = None

-- one of the two formats
abbrev pub is_format : ℕ → Bool
is_format format = (format == FIRST_FORMAT) || (format == FORMAT)

-- the change that all of the bytes state
unfoldable pub change_of : List ℕ → Option Change
change_of bytes = do
  format ← byte_at bytes
  kind ← byte_at format.1
  name ← name_at kind.1
  if is_format format.0 then whole (change_at format.0 kind.0 name.0 name.1) else None
