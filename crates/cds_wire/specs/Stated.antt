-- What a request's body states, or its first refusal: each object's fields with their ranges, line by line in the order
-- of judging. The form of the bodies is this project's own.
use Rattle.std.specs.Prelude.{◌≡◌, ℕ, ℤ, true, List, [], ◌∷◌, Some, None, Result, Ok, ok_or, unwrap_or, codes}
use Rattle.std.specs.Prelude.{if◌then◌else◌}
use Rattle.std.specs.List.{list_any}
use Rattle.std.specs.Str.{bytes_eq}
use Rattle.cds_base.specs.Answers.{◌>>=◌, unless}
use Rattle.cds_base.specs.declared.event.Event.{Event}
use Rattle.cds_fields.specs.Datum.{Datum, object_in, flag_in}
use Rattle.cds_fields.specs.Event.{events_of}
use Rattle.cds_fields.specs.Json.{json_value}
use Rattle.cds_fields.specs.Section.{Section, Entry, has, required, optional, section, only, entries, optional_entries}
use Rattle.cds_fields.specs.Section.{entry_at, entry_section, stated_by, each, named}
use Rattle.cds_fields.specs.Values.{number_in, signed_in, name_in, one_of}
use Rattle.cds_base.specs.declared.event.TheConstants.{MOST_EVENTS}
use Rattle.cds_sign.specs.Printed.{is_printed}
use Rattle.cds_sign.specs.Ranges.{IsWithin}
use Rattle.cds_sign.specs.declared.asked.AskedRow.{AskedRow}
use Rattle.cds_sign.specs.declared.command.Command.{Command}
use Rattle.cds_sign.specs.declared.command.Command.TheVariants.{Sequence, Events, Rebind}
use Rattle.cds_sign.specs.declared.limits.TheConstants.{MOST_ROWS, MOST_STANDARDS, MOST_AMOUNTS, MOST_VERSIONS}
use Rattle.cds_sign.specs.declared.limits.TheConstants.{MOST_DILUTION, MOST_EDITION, MOST_BASIS}
use Rattle.cds_wire.specs.declared.error.BodyError.{BodyError}
use Rattle.cds_wire.specs.declared.error.BodyError.TheVariants.{Json, Field}
use Rattle.cds_wire.specs.declared.limits.TheConstants.{MOST_FREEZE_VERSION, MOST_SIGN_NUMBER, LEAST_ASKED_AMOUNT}
use Rattle.cds_wire.specs.declared.limits.TheConstants.{MOST_ASKED_AMOUNT}
use Rattle.cds_wire.specs.declared.sign.SignBody.{SignBody}
use Rattle.cds_wire.specs.Refusal.{body_refusals}
use Rattle.cds_wire.specs.Values.{row_kinds, printed_in}

-- a value that is an object; a field's path in it is its name
unfoldable pub whole : Datum → Result (Section BodyError) BodyError
whole d = do
  fields ← ok_or (object_in d) (Field [])
  Ok (record { front = []; fields = fields; told = body_refusals })

-- a body's object, judged by this
unfoldable pub body : {X : Type 0} → (Section BodyError → Result X BodyError) → List ℕ → Result X BodyError
body judge bytes = do
  d ← ok_or (json_value bytes) Json
  s ← whole d
  judge s

-- a freeze names the version that is to be made
unfoldable pub freeze_of : Section BodyError → Result ℕ BodyError
freeze_of s = do
  version ← required (number_in 1 MOST_FREEZE_VERSION) (codes "version") s
  _ ← only (codes "version" ∷ []) s
  Ok version

-- a method and the version of it that is bound, 0 for the latest one
pub record Bound : Type 0 where
  pub name : List ℕ
  pub version : ℕ

-- the object under `method`
unfoldable pub method_of : Section BodyError → Result Bound BodyError
method_of s = do
  m ← section (codes "method") s
  name ← required name_in (codes "name") m
  version ← required (number_in 0 MOST_VERSIONS) (codes "version") m
  _ ← only (codes "name" ∷ codes "version" ∷ []) m
  Ok (record { name = name; version = version })

-- a listed sequence, which is none of those before it
unfoldable pub standard_of : List (List ℕ) → Entry BodyError → Result (List ℕ) BodyError
standard_of before e = do
  name ← stated_by name_in e
  _ ← unless (if list_any (bytes_eq name) before then Some (e.told.range e.path) else None)
  Ok name

-- the listed sequences
unfoldable pub standards_of : Section BodyError → Result (List (List ℕ)) BodyError
standards_of s = do
  es ← entries 1 MOST_STANDARDS (codes "standards") s
  each standard_of es

-- the amounts of a row, none where the field is absent
unfoldable pub amounts_of : Section BodyError → Result (List (List ℕ × ℤ)) BodyError
amounts_of s =
    if has (codes "amounts") s then named (signed_in LEAST_ASKED_AMOUNT MOST_ASKED_AMOUNT) MOST_AMOUNTS
    (codes "amounts") s else Ok []

-- the two parts of a dilution
pub record Dilution : Type 0 where
  pub u : ℕ
  pub v : ℕ

-- the dilution of a row, 1 in 1 where the field is absent
unfoldable pub dilution_of : Section BodyError → Result Dilution BodyError
dilution_of s =
    if has (codes "dilution") s
    then (do
      es ← entries 2 2 (codes "dilution") s
      u ← stated_by (number_in 1 MOST_DILUTION) (entry_at 0 es)
      v ← stated_by (number_in 1 MOST_DILUTION) (entry_at 1 es)
      Ok (record { u = u; v = v }))
    else Ok (record { u = 1; v = 1 })

-- the manual events of a row, none where the field is absent
unfoldable pub row_events : Section BodyError → Result (List Event) BodyError
row_events s = do
  es ← optional_entries MOST_EVENTS (codes "events") s
  events_of es

-- the names of the fields of a row
abbrev pub row_fields : List (List ℕ)
row_fields =
    codes "label" ∷ codes "kind" ∷ codes "trace" ∷ codes "version" ∷ codes "amounts" ∷ codes "used" ∷ codes "dilution"
    ∷ codes "events" ∷ []

-- a row; it is used where it does not say otherwise
unfoldable pub row_of : Entry BodyError → Result AskedRow BodyError
row_of e = do
  s ← entry_section e
  label ← required name_in (codes "label") s
  kind ← required (one_of row_kinds) (codes "kind") s
  trace ← required name_in (codes "trace") s
  version ← required (number_in 0 MOST_VERSIONS) (codes "version") s
  amounts ← amounts_of s
  used ← optional flag_in (codes "used") s
  dilution ← dilution_of s
  events ← row_events s
  _ ← only row_fields s
  Ok (record {
    label = label;
    kind = kind;
    trace = trace;
    version = version;
    used = unwrap_or used true;
    u = dilution.u;
    v = dilution.v;
    amounts = amounts;
    events = events;
  })

-- the rows of a sequence
unfoldable pub rows_of : Section BodyError → Result (List AskedRow) BodyError
rows_of s = do
  es ← entries 1 MOST_ROWS (codes "rows") s
  each (λ _. row_of) es

-- the sequence that is put under this name
unfoldable pub sequence_of : List ℕ → Section BodyError → Result Command BodyError
sequence_of name s = do
  edition ← required (number_in 0 MOST_EDITION) (codes "edition") s
  method ← method_of s
  standards ← standards_of s
  rows ← rows_of s
  _ ← only (codes "edition" ∷ codes "method" ∷ codes "standards" ∷ codes "rows" ∷ []) s
  Ok (Sequence name edition method.name method.version standards rows)

-- the manual events that are put for this row of the sequence of this name
unfoldable pub put_events_of : List ℕ → ℕ → Section BodyError → Result Command BodyError
put_events_of name row s = do
  edition ← required (number_in 0 MOST_EDITION) (codes "edition") s
  es ← entries 0 MOST_EVENTS (codes "events") s
  events ← events_of es
  _ ← only (codes "edition" ∷ codes "events" ∷ []) s
  Ok (Events name edition row events)

-- the version to which the sequence of this name is bound, 0 for the latest one
unfoldable pub reprocess_of : List ℕ → Section BodyError → Result Command BodyError
reprocess_of name s = do
  edition ← required (number_in 0 MOST_EDITION) (codes "edition") s
  version ← required (number_in 0 MOST_VERSIONS) (codes "version") s
  _ ← only (codes "edition" ∷ codes "version" ∷ []) s
  Ok (Rebind name edition version)

-- what is to be signed, by whom and as what
unfoldable pub sign_of : Section BodyError → Result SignBody BodyError
sign_of s = do
  basis ← required (number_in 1 MOST_BASIS) (codes "basis") s
  number ← required (number_in 1 MOST_SIGN_NUMBER) (codes "number") s
  name ← required printed_in (codes "name") s
  meaning ← required printed_in (codes "meaning") s
  _ ← only (codes "basis" ∷ codes "number" ∷ codes "name" ∷ codes "meaning" ∷ []) s
  Ok (record { basis = basis; number = number; name = name; meaning = meaning })

-- what a body may ask a signature to be
pub record IsSignBody (sign : SignBody) : Type 0 where
  pub basis : IsWithin 1 MOST_BASIS sign.basis
  pub number : IsWithin 1 MOST_SIGN_NUMBER sign.number
  pub name : is_printed sign.name ≡ true
  pub meaning : is_printed sign.meaning ≡ true
