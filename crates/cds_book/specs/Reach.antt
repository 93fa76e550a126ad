-- Which sequences a change reaches: the inputs of all others stay as they are. This project's own.
use Rattle.std.specs.Prelude.{ℕ, ◌==◌, ◌&&◌, ◌||◌, Bool, false, List, Option, Some, None}
use Rattle.std.specs.List.{list_any}
use Rattle.std.specs.Option.{option_map_or}
use Rattle.std.specs.Str.{bytes_eq}
use Rattle.cds_sign.specs.declared.command.Change.{Change}
use Rattle.cds_sign.specs.declared.command.Change.TheVariants as change
use Rattle.cds_sign.specs.declared.row.Row.{Row}
use Rattle.cds_sign.specs.declared.sequence.Sequence.{Sequence}
use Rattle.cds_book.specs.Inputs.{is_standard}
use Rattle.cds_book.specs.Plan.{sequence_changed, trace_changed}
use Rattle.cds_book.specs.Tables.{TablesState, sequence_of}

-- the name of the method that a change freezes, if it is a freeze
abbrev pub method_frozen : Change → Option (List ℕ)
method_frozen (change.Trace name signal) = None
method_frozen (change.Draft name text) = None
method_frozen (change.Freeze name version) = Some name
method_frozen (change.Sequence name edition method version standards rows) = None
method_frozen (change.Events name edition row events) = None
method_frozen (change.Rebind name edition version) = None
method_frozen (change.Sign sequence number basis moment name meaning text) = None

-- the name is bound by its latest version, and is the one that has a version more
abbrev pub binds_latest : List ℕ → ℕ → Option (List ℕ) → Bool
binds_latest bound version grown = option_map_or (λ name. bytes_eq bound name && (version == 0)) grown false

-- a row that binds the latest version of the trace that is put
abbrev pub row_reached : Change → Row → Bool
row_reached c row = binds_latest row.trace row.version (trace_changed c)

-- a sequence that binds the latest version of the method that is frozen
abbrev pub method_reached : Change → Sequence → Bool
method_reached c s = binds_latest s.method s.version (method_frozen c)

-- the sequence of this name is put, gets other events of a row, or is bound to another version of its method
abbrev pub is_made : Change → List ℕ → Bool
is_made c name = option_map_or (λ made. bytes_eq made name) (sequence_changed c) false

-- a sequence is reached by what it binds: its method, or the trace of one of its rows
abbrev pub own_reached : Change → Sequence → Bool
own_reached c s = method_reached c s || list_any (row_reached c) s.rows

-- what it gives to those that list it is reached by its method, or by its standard rows alone, used or not
abbrev pub standards_reached : Change → Sequence → Bool
standards_reached c s =
    method_reached c s || list_any (λ (row : Row). is_standard row.kind && row_reached c row) s.rows

-- a listed sequence passes a change on that makes it other or reaches what it gives
unfoldable pub listed_reached : TablesState → Change → List ℕ → Bool
listed_reached tables c listed =
    is_made c listed || option_map_or (standards_reached c) (sequence_of tables listed) false

-- whether a change reaches the sequence of a name: it makes it, reaches what it binds, or is passed on by one that it
-- lists
unfoldable pub is_reached : TablesState → Change → List ℕ → Bool
is_reached tables c name =
    is_made c name
    || option_map_or (λ (s : Sequence). own_reached c s || list_any (listed_reached tables c) s.standards)
    (sequence_of tables name) false
