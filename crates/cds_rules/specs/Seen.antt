-- A table of a method's text, a list and an entry of it, as their judging sees them.
use Rattle.toml.specs.View.{view}
use Rattle.toml.specs.declared.value.Value.{Value}
use Rattle.cds_fields.specs.Section.{Section, Entries, Entry}
use Rattle.cds_fields.specs.Seen.{seen as seen_as, list_seen as list_seen_as, entry_seen as entry_seen_as}
use Rattle.cds_fields.specs.Toml.{of_toml}
use Rattle.cds_fields.specs.declared.section.Section.{Section as HeldSection}
use Rattle.cds_fields.specs.declared.entries.Entries.{Entries as HeldEntries}
use Rattle.cds_fields.specs.declared.entries.Entry.{Entry as HeldEntry}
use Rattle.cds_rules.specs.declared.error.MethodError.{MethodError}
use Rattle.cds_rules.specs.Refusal.{method_refusals}

-- a table
abbrev pub seen : HeldSection Value MethodError → Section MethodError
seen = seen_as (λ v. of_toml (view v)) method_refusals

-- a list
abbrev pub list_seen : HeldEntries Value MethodError → Entries MethodError
list_seen = list_seen_as (λ v. of_toml (view v)) method_refusals

-- an entry
abbrev pub entry_seen : HeldEntry Value MethodError → Entry MethodError
entry_seen = entry_seen_as (λ v. of_toml (view v)) method_refusals
