-- An object of a request's body, a list and an entry of it, as their judging sees them.
use Rattle.serde_json.specs.View.{view}
use Rattle.serde_json.specs.declared.value.Value.{Value}
use Rattle.cds_fields.specs.Json.{of_json}
use Rattle.cds_fields.specs.Section.{Section, Entries, Entry}
use Rattle.cds_fields.specs.Seen.{seen as seen_as, list_seen as list_seen_as, entry_seen as entry_seen_as}
use Rattle.cds_fields.specs.declared.section.Section.{Section as HeldSection}
use Rattle.cds_fields.specs.declared.entries.Entries.{Entries as HeldEntries}
use Rattle.cds_fields.specs.declared.entries.Entry.{Entry as HeldEntry}
use Rattle.cds_wire.specs.declared.error.BodyError.{BodyError}
use Rattle.cds_wire.specs.Refusal.{body_refusals}

-- an object
abbrev pub seen : HeldSection Value BodyError → Section BodyError
seen = seen_as (λ v. of_json (view v)) body_refusals

-- a list
abbrev pub list_seen : HeldEntries Value BodyError → Entries BodyError
list_seen = list_seen_as (λ v. of_json (view v)) body_refusals

-- an entry
abbrev pub entry_seen : HeldEntry Value BodyError → Entry BodyError
entry_seen = entry_seen_as (λ v. of_json (view v)) body_refusals
