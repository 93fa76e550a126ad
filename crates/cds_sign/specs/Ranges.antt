-- What the parts of a command and of a change may be: names, numbers within their ranges, and lists within their limits.
-- The ranges are this project's own.
use Rattle.std.specs.Prelude.{◌≡◌, ◌≤◌, ◌<◌, ◌+◌, ℕ, ⊤, true, List, All, length, map}
use Rattle.std.specs.List.{IsDistinct}
use Rattle.std.specs.Str.{bytes_eq}
use Rattle.cds_base.specs.EventRange.{EventRanges}
use Rattle.cds_base.specs.NameText.{IsName}
use Rattle.cds_base.specs.Named.{AreRising}
use Rattle.cds_base.specs.declared.clock.TheConstants.{MOMENT_LIMIT}
use Rattle.cds_base.specs.declared.event.Event.{Event}
use Rattle.cds_trace.specs.Signal.{IsTrace}
use Rattle.cds_sign.specs.Printed.{is_printed}
use Rattle.cds_sign.specs.declared.asked.AskedRow.{AskedRow}
use Rattle.cds_sign.specs.declared.command.Change.{Change}
use Rattle.cds_sign.specs.declared.command.Change.TheVariants as change
use Rattle.cds_sign.specs.declared.command.Command.{Command}
use Rattle.cds_sign.specs.declared.command.Command.TheVariants as command
use Rattle.cds_base.specs.declared.limits.TheConstants.{MOST_AMOUNT}
use Rattle.cds_sign.specs.declared.limits.TheConstants.{MOST_ROWS, MOST_STANDARDS, MOST_AMOUNTS, MOST_VERSIONS, MOST_DILUTION, MOST_EDITION, MOST_BASIS, MOST_SIGNATURES, TEXT_LIMIT}
use Rattle.cds_sign.specs.declared.row.Row.{Row}

-- a number from one to another, both included
pub record IsWithin (least : ℕ) (most : ℕ) (number : ℕ) : Type 0 where
  pub enough : least ≤ number
  pub few : number ≤ most

-- the names of amounts: at most 32, rising in byte order
pub record AreAmountNames (names : List (List ℕ)) : Type 0 where
  pub few : length names ≤ MOST_AMOUNTS
  pub each : All IsName names
  pub rising : AreRising names

-- a row that is asked: its amounts may be any numbers
pub record IsAskedRow (row : AskedRow) : Type 0 where
  pub label : IsName row.label
  pub trace : IsName row.trace
  pub version : row.version ≤ MOST_VERSIONS
  pub u : IsWithin 1 MOST_DILUTION row.u
  pub v : IsWithin 1 MOST_DILUTION row.v
  pub amounts : AreAmountNames (map (λ a. a.0) row.amounts)
  pub events : EventRanges row.events

-- a row, as it is kept or as a change states it
pub record IsRow (row : Row) : Type 0 where
  pub label : IsName row.label
  pub trace : IsName row.trace
  pub version : row.version ≤ MOST_VERSIONS
  pub u : IsWithin 1 MOST_DILUTION row.u
  pub v : IsWithin 1 MOST_DILUTION row.v
  pub amounts : AreAmountNames (map (λ a. a.0) row.amounts)
  pub each : All (λ a. IsWithin 1 MOST_AMOUNT a.1) row.amounts
  pub events : EventRanges row.events

-- the sequences that a sequence lists: 1 to 8, none of them twice
pub record AreStandards (names : List (List ℕ)) : Type 0 where
  pub count : IsWithin 1 MOST_STANDARDS (length names)
  pub each : All IsName names
  pub different : IsDistinct bytes_eq names

-- what a sequence that is put may be, but for its rows
pub record IsFrame (sequence : List ℕ) (before : ℕ) (by : List ℕ) (bound : ℕ) (listed : List (List ℕ)) : Type 0 where
  pub name : IsName sequence
  pub edition : before ≤ MOST_EDITION
  pub method : IsName by
  pub version : bound ≤ MOST_VERSIONS
  pub standards : AreStandards listed

-- the rows of a sequence: 1 to 200, each of which may be one
pub record AreRows {R : Type 0} (IsOne : R → Type 0) (rows : List R) : Type 0 where
  pub count : IsWithin 1 MOST_ROWS (length rows)
  pub each : All IsOne rows

-- what the manual events of a row may be that are put
pub record ArePutEvents (sequence : List ℕ) (before : ℕ) (put : List Event) : Type 0 where
  pub name : IsName sequence
  pub edition : before ≤ MOST_EDITION
  pub events : EventRanges put

-- what another version of a sequence's method may be
pub record IsRebinding (sequence : List ℕ) (before : ℕ) (bound : ℕ) : Type 0 where
  pub name : IsName sequence
  pub edition : before ≤ MOST_EDITION
  pub version : bound ≤ MOST_VERSIONS

-- what a signature may be of which this number is the greatest
pub record IsSigning (most : ℕ) (signed : List ℕ) (n : ℕ) (over : ℕ) (at : ℕ) (by : List ℕ) (means : List ℕ)
    (says : List ℕ) : Type 0 where
  pub sequence : IsName signed
  pub number : IsWithin 1 most n
  pub basis : IsWithin 1 MOST_BASIS over
  pub moment : at < MOMENT_LIMIT
  pub name : is_printed by ≡ true
  pub meaning : is_printed means ≡ true
  pub text : length says < TEXT_LIMIT

-- what a command may be. A freeze may name any version, and events any row, for which of them is there is judged with
-- the tables; a signature may have a number of one more than a sequence has.
abbrev pub IsAsked : Command → Type 0
IsAsked (command.Trace name signal) = IsName name × IsTrace signal
IsAsked (command.Draft name text) = IsName name × (length text < TEXT_LIMIT)
IsAsked (command.Freeze name version) = IsName name
IsAsked (command.Sequence name edition method version standards rows) =
    IsFrame name edition method version standards × AreRows IsAskedRow rows
IsAsked (command.Events name edition row events) = ArePutEvents name edition events
IsAsked (command.Rebind name edition version) = IsRebinding name edition version
IsAsked (command.Sign sequence number basis moment name meaning text) =
    IsSigning (MOST_SIGNATURES + 1) sequence number basis moment name meaning text

-- what a change may be
abbrev pub IsChange : Change → Type 0
IsChange (change.Trace name signal) = IsName name × IsTrace signal
IsChange (change.Draft name text) = IsName name × (length text < TEXT_LIMIT)
IsChange (change.Freeze name version) = IsName name × IsWithin 1 MOST_VERSIONS version
IsChange (change.Sequence name edition method version standards rows) =
    IsFrame name edition method version standards × AreRows IsRow rows
IsChange (change.Events name edition row events) = ArePutEvents name edition events × IsWithin 1 MOST_ROWS row
IsChange (change.Rebind name edition version) = IsRebinding name edition version
IsChange (change.Sign sequence number basis moment name meaning text) =
    IsSigning MOST_SIGNATURES sequence number basis moment name meaning text
