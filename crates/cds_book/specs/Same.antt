-- When rows and inputs are equal: each part is, and lists are in the same order. This project's own.
use Rattle.std.specs.Prelude.{ℕ, ◌==◌, ◌&&◌, Bool, List}
use Rattle.std.specs.Bool.{beq}
use Rattle.std.specs.Cmp.Lexicographic.{pointwise}
use Rattle.std.specs.Str.{bytes_eq}
use Rattle.cds_base.specs.EventParts.{EventParts, event_parts}
use Rattle.cds_base.specs.declared.event.Event.{Event}
use Rattle.cds_sign.specs.RowKinds.{kind_number}
use Rattle.cds_sign.specs.declared.inputs.Inputs.{Inputs}
use Rattle.cds_sign.specs.declared.inputs.Listed.{Listed}
use Rattle.cds_sign.specs.declared.inputs.ListedRow.{ListedRow}
use Rattle.cds_sign.specs.declared.row.Row.{Row}

-- parts are equal where each is
abbrev pub same_parts : EventParts → EventParts → Bool
same_parts a b = (a.kind == b.kind) && ((a.first == b.first) && ((a.second == b.second) && (a.third == b.third)))

-- events are equal where their kinds and their numbers are
abbrev pub same_event : Event → Event → Bool
same_event a b = same_parts (event_parts a) (event_parts b)

-- lists of events are equal where each event is, in order
unfoldable pub same_events : List Event → List Event → Bool
same_events a b = pointwise same_event a b

-- amounts are equal where their names and their numbers are
abbrev pub same_amount : List ℕ × ℕ → List ℕ × ℕ → Bool
same_amount a b = bytes_eq a.0 b.0 && (a.1 == b.1)

-- rows are equal where all of their content is: two bindings of one trace differ though they name the same version
unfoldable pub same_row : Row → Row → Bool
same_row a b =
    bytes_eq a.label b.label && ((kind_number a.kind == kind_number b.kind) && (bytes_eq a.trace b.trace
    && ((a.version == b.version) && (beq a.used b.used && ((a.u == b.u) && ((a.v == b.v)
    && (pointwise same_amount a.amounts b.amounts && same_events a.events b.events)))))))

-- lists of rows are equal where each row is, in order
unfoldable pub same_rows : List Row → List Row → Bool
same_rows a b = pointwise same_row a b

-- what two standard rows give is equal where each part is
unfoldable pub same_listed_row : ListedRow → ListedRow → Bool
same_listed_row a b =
    bytes_eq a.trace b.trace && ((a.version == b.version) && (beq a.used b.used
    && (pointwise same_amount a.amounts b.amounts && same_events a.events b.events)))

-- listed sequences are equal where their names, methods, versions and standard rows are
unfoldable pub same_listed : Listed → Listed → Bool
same_listed a b =
    bytes_eq a.sequence b.sequence && (bytes_eq a.method b.method && ((a.version == b.version)
    && pointwise same_listed_row a.rows b.rows))

-- inputs are equal where their methods, versions, rows and listed sequences are
unfoldable pub same_inputs : Inputs → Inputs → Bool
same_inputs a b =
    bytes_eq a.method b.method && ((a.version == b.version) && (same_rows a.rows b.rows
    && pointwise same_listed a.standards b.standards))
