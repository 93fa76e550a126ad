-- A section, a list and an entry of the code, as their judging sees them.
use Rattle.std.specs.Prelude.{ℕ, List, map, String, string_bytes}
use Rattle.std.specs.declared.alloc.Global.{Global}
use Rattle.cds_fields.specs.Datum.{Datum}
use Rattle.cds_fields.specs.Refusals.{Refusals}
use Rattle.cds_fields.specs.Section.{Section, Entries, Entry}
use Rattle.cds_fields.specs.declared.section.Section.{Section as HeldSection}
use Rattle.cds_fields.specs.declared.entries.Entries.{Entries as HeldEntries}
use Rattle.cds_fields.specs.declared.entries.Entry.{Entry as HeldEntry}

-- the fields that a map holds
abbrev pub fields_seen : {V : Type 0} → (V → Datum) → List (String Global × V) → List (List ℕ × Datum)
fields_seen shown es = map (λ e. (string_bytes e.0, shown e.1)) es

-- a section with the bytes of its path and its fields
abbrev pub seen : {V E : Type 0} → (V → Datum) → Refusals E → HeldSection V E → Section E
seen shown told s = record { front = string_bytes s.front; fields = fields_seen shown s.fields.now.entries; told = told }

-- a list with the bytes of its path and its values
abbrev pub list_seen : {V E : Type 0} → (V → Datum) → Refusals E → HeldEntries V E → Entries E
list_seen shown told es = record { path = string_bytes es.path; values = map shown es.values.now; told = told }

-- an entry with the bytes of its path and its value
abbrev pub entry_seen : {V E : Type 0} → (V → Datum) → Refusals E → HeldEntry V E → Entry E
entry_seen shown told e = record { path = string_bytes e.path; value = shown e.value.now; told = told }
