-- The commands that bodies state of sequences may be planned where they are in their ranges, and a route makes them.
use Rattle.std.proofs.Common.{◌≡◌, List, [], ◌∷◌, ℕ, Result, Ok, Err, subst, codes}
use Rattle.std.specs.Prelude.{ok_or}
use Rattle.cds_base.specs.Answers.{◌>>=◌}
use Rattle.cds_base.specs.declared.event.Event.{Event}
use Rattle.cds_base.specs.declared.event.TheConstants.{MOST_EVENTS}
use Rattle.cds_book.specs.Plan.{IsCommand}
use Rattle.cds_fields.specs.Json.{json_value}
use Rattle.cds_fields.specs.Event.{events_of}
use Rattle.cds_fields.specs.Section.{Section, Entries, required, only, entries}
use Rattle.cds_fields.specs.Values.{number_in}
use Rattle.cds_sign.specs.Ranges.{IsAsked}
use Rattle.cds_sign.specs.declared.asked.AskedRow.{AskedRow}
use Rattle.cds_sign.specs.declared.command.Command.{Command}
use Rattle.cds_sign.specs.declared.command.Command.TheVariants as command
use Rattle.cds_sign.specs.declared.limits.TheConstants.{MOST_EDITION, MOST_VERSIONS}
use Rattle.cds_wire.specs.Stated.{Bound, body, whole, method_of, standards_of, rows_of}
use Rattle.cds_wire.specs.Stated.{sequence_of, put_events_of, reprocess_of}
use Rattle.cds_wire.specs.declared.error.BodyError.{BodyError}
use Rattle.cds_wire.specs.declared.error.BodyError.TheVariants.{Json}
use Rattle.cds_desk.specs.Commands.{IsBrief}

-- a command whose record can be kept, and that may be planned where it is in its ranges
pub record MayBePlanned (asked : Command) : Type 0 where
  pub ranged : IsAsked asked → IsCommand asked
  pub brief : IsBrief asked

-- the fields of each body
abbrev sequence_fields : List (List ℕ)
sequence_fields = codes "edition" ∷ codes "method" ∷ codes "standards" ∷ codes "rows" ∷ []

abbrev event_fields : List (List ℕ)
event_fields = codes "edition" ∷ codes "events" ∷ []

abbrev version_fields : List (List ℕ)
version_fields = codes "edition" ∷ codes "version" ∷ []

-- the command that is stated, if one is, is such
abbrev Made : Result Command BodyError → Type 0
Made (Ok asked) = MayBePlanned asked
Made (Err e) = Unit {0}

-- what follows something is such where each that may follow is
followed : {X : Type 0} (r : Result X BodyError) (f : X → Result Command BodyError) → ((x : X) → Made (f x)) → Made (r >>= f)
followed (Ok x) f each = each x
followed (Err e) f each = tt

-- what a body states is such where all that may be stated is
of_body : (judge : Section BodyError → Result Command BodyError) → ((s : Section BodyError) → Made (judge s))
    → (bytes : List ℕ) (asked : Command) → body judge bytes ≡ Ok asked → MayBePlanned asked
unfolding body
of_body judge each bytes asked is =
    subst Made is (followed (ok_or (json_value bytes) Json) (λ d. whole d >>= judge) (λ d. followed (whole d) judge each))

may_be : (asked : Command) → (IsAsked asked → IsCommand asked) → IsBrief asked → MayBePlanned asked
may_be asked ranged brief = record { ranged = ranged; brief = brief }

module _ (name : List ℕ) (s : Section BodyError) where
  -- what follows the parts of a sequence, from the last one on
  abbrev rows_after : ℕ → Bound → List (List ℕ) → List AskedRow → Unit {0} → Result Command BodyError
  rows_after edition method standards rows _ = Ok (command.Sequence name edition method.name method.version standards rows)

  abbrev fields_after : ℕ → Bound → List (List ℕ) → List AskedRow → Result Command BodyError
  fields_after edition method standards rows = only sequence_fields s >>= rows_after edition method standards rows

  abbrev standards_after : ℕ → Bound → List (List ℕ) → Result Command BodyError
  standards_after edition method standards = rows_of s >>= fields_after edition method standards

  abbrev method_after : ℕ → Bound → Result Command BodyError
  method_after edition method = standards_of s >>= standards_after edition method

  abbrev edition_after : ℕ → Result Command BodyError
  edition_after edition = method_of s >>= method_after edition

  sequence_made : Made (sequence_of name s)
  unfolding sequence_of
  sequence_made =
      followed (required (number_in 0 MOST_EDITION) (codes "edition") s) edition_after (λ edition.
      followed (method_of s) (method_after edition) (λ method.
      followed (standards_of s) (standards_after edition method) (λ standards.
      followed (rows_of s) (fields_after edition method standards) (λ rows.
      followed (only sequence_fields s) (rows_after edition method standards rows) (λ _.
      may_be (command.Sequence name edition method.name method.version standards rows) (λ ranges. (ranges, tt)) tt)))))

  -- what follows the parts of the events of a row
  abbrev put_after : ℕ → ℕ → List Event → Unit {0} → Result Command BodyError
  put_after row edition events _ = Ok (command.Events name edition row events)

  abbrev events_after : ℕ → ℕ → List Event → Result Command BodyError
  events_after row edition events = only event_fields s >>= put_after row edition events

  abbrev entries_after : ℕ → ℕ → Entries BodyError → Result Command BodyError
  entries_after row edition entries = events_of entries >>= events_after row edition

  abbrev put_edition_after : ℕ → ℕ → Result Command BodyError
  put_edition_after row edition = entries 0 MOST_EVENTS (codes "events") s >>= entries_after row edition

  events_made : (row : ℕ) → Made (put_events_of name row s)
  unfolding put_events_of
  events_made row =
      followed (required (number_in 0 MOST_EDITION) (codes "edition") s) (put_edition_after row) (λ edition.
      followed (entries 0 MOST_EVENTS (codes "events") s) (entries_after row edition) (λ es.
      followed (events_of es) (events_after row edition) (λ events.
      followed (only event_fields s) (put_after row edition events) (λ _.
      may_be (command.Events name edition row events) (λ ranges. (ranges, tt)) tt))))

  -- what follows the parts of another version
  abbrev bound_after : ℕ → ℕ → Unit {0} → Result Command BodyError
  bound_after edition version _ = Ok (command.Rebind name edition version)

  abbrev version_after : ℕ → ℕ → Result Command BodyError
  version_after edition version = only version_fields s >>= bound_after edition version

  abbrev rebind_edition_after : ℕ → Result Command BodyError
  rebind_edition_after edition = required (number_in 0 MOST_VERSIONS) (codes "version") s >>= version_after edition

  reprocess_made : Made (reprocess_of name s)
  unfolding reprocess_of
  reprocess_made =
      followed (required (number_in 0 MOST_EDITION) (codes "edition") s) rebind_edition_after (λ edition.
      followed (required (number_in 0 MOST_VERSIONS) (codes "version") s) (version_after edition) (λ version.
      followed (only version_fields s) (bound_after edition version) (λ _.
      may_be (command.Rebind name edition version) (λ ranges. (ranges, tt)) tt)))

-- a sequence that is put
pub sequence_stated : (name bytes : List ℕ) (asked : Command) → body (sequence_of name) bytes ≡ Ok asked → MayBePlanned asked
sequence_stated name = of_body (sequence_of name) (sequence_made name)

-- the events of a row
pub events_stated : (name : List ℕ) (row : ℕ) (bytes : List ℕ) (asked : Command)
    → body (put_events_of name row) bytes ≡ Ok asked → MayBePlanned asked
events_stated name row = of_body (put_events_of name row) (λ s. events_made name s row)

-- another version of a method
pub reprocess_stated : (name bytes : List ℕ) (asked : Command) → body (reprocess_of name) bytes ≡ Ok asked → MayBePlanned asked
reprocess_stated name = of_body (reprocess_of name) (reprocess_made name)
