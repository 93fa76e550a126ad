-- What the machine holds from one request to the next, and what it holds after a change.
use Rattle.std.specs.Prelude.{ℕ, Option, Some, None}
use Rattle.cds_book.specs.Tables.{TablesState, Room, empty_tables}
use Rattle.cds_book.specs.Plan.{applied}
use Rattle.cds_sign.specs.declared.command.Change.{Change}
use Rattle.cds_graph.specs.Keys.{fresh}

-- what the machine holds
pub record State : Type 0 where
  pub tables : TablesState

-- the machine that holds nothing
abbrev pub empty_state : State
empty_state = record { tables = empty_tables }

-- the state after a change
abbrev pub with_change : State → Change → State
with_change state change = record { tables = applied state.tables change }

-- the state after a change, if there is one
abbrev pub after_change : State → Option Change → State
after_change state (Some change) = with_change state change
after_change state None = state

-- The most steps that a change may take: those of the rows and the noises whose keys it makes new. Without a change
-- there are none.
abbrev pub cost_of : State → Option Change → ℕ
cost_of state (Some change) = fresh state.tables (with_change state change).tables
cost_of state None = 0

-- what the desk's state is seen as: what it holds, and for which change room was taken
pub record StateValue : Type 0 where
  pub held : State
  pub room : Option Room
