-- A store is opened; and the command `session`: the source is served as one connection over the store.
use Rattle.std.specs.Prelude.{◌≡◌, ◌≢◌, ◌⊎◌, ◌≤◌, ℕ, true, false, List, [], codes, ◌++◌, decimal, Option, Some, IfSome}
use Rattle.cds_base.specs.Failing.{one_more}
use Rattle.cds_base.specs.Faults.{Rose}
use Rattle.cds_base.specs.Clock.{Moments}
use Rattle.cds_base.specs.Sink.{SinkTold}
use Rattle.cds_desk.specs.State.{State}
use Rattle.cds_keep.specs.Found.{Found, records, damaged}
use Rattle.cds_keep.specs.Told.{KeeperTold}
use Rattle.cds_respond.specs.Sending.{Sent}
use Rattle.cds_desk.specs.Opening.{Opens, StopsAt}
use Rattle.cds_desk.specs.Serving.{Reading, world, EndsAs}
use Rattle.cds_desk.specs.Statuses.{ends_unserved}
use Rattle.cds_desk.specs.declared.serving.Ended.{Ended}
use Rattle.cds_desk.specs.declared.serving.Ended.TheVariants.{Done, Refused, SourceFailed, SinkFailed, NoMemory}
use Rattle.cds_desk.specs.declared.status.Status.{Status}
use Rattle.cds_desk.specs.declared.status.Status.TheVariants as status

-- The record of this number, counted from 1, is the damaged one of what a load finds: one that the store can't delimit,
-- or the first that isn't accepted in the state that those before it make.
abbrev pub IsDamagedAt : Found → ℕ → Type 0
IsDamagedAt (damaged at) number = number ≡ at
IsDamagedAt (records list) number = StopsAt list number

-- what is written where the store is damaged
abbrev pub damaged_line : ℕ → List ℕ
damaged_line number = codes "damaged " ++ decimal number ++ codes "\n"

-- a load answered this list, before which the keeper told this: it is what the load found, where that is told, and the
-- content told now
pub record Loaded (list : List (List ℕ)) (found : Option Found) (before now : KeeperTold) : Type 0 where
  pub is_found : IfSome found (λ f. f ≡ records list)
  pub is_open : now.is_open ≡ true
  pub is_content : IfSome now.content (λ kept. kept ≡ list)
  pub told : IfSome found (λ f. now.content ≡ Some list)
  pub faults : now.faults ≡ before.faults
  pub calls : now.calls ≡ one_more before.calls

-- records that were loaded made no state: memory was wanting, or one of them is damaged, and is told
pub record Stopped (how : Status) (list : List (List ℕ)) (sink sink_now : SinkTold) : Type 0 where
  pub ends : (how ≡ status.NoMemory) ⊎ (how ≡ status.Damaged)
  pub damaged_at : how ≡ status.Damaged → (number : ℕ) × StopsAt list number
      × Sent sink.written sink_now.written sink.faults sink_now.faults (damaged_line number)

-- A store was opened by one load, before which the keeper told this, and so many steps were counted: its records are
-- those that the load found, where that is told, and the content told now; and they make this state.
pub record Opened (found : Option Found) (before : KeeperTold) (counted : ℕ) (now : KeeperTold) (state : State)
    (steps : ℕ) : Type 0 where
  pub list : List (List ℕ)
  pub loaded : Loaded list found before now
  pub opens : Opens list state
  -- a store without records is opened in no step
  pub counts : counted ≤ steps
  pub no_step : list ≡ [] → steps ≡ counted

-- No store was opened: the keeper failed in the load, memory was wanting, or the store is damaged. `found` is what a load
-- of it finds.
pub record Unopened (how : Status) (found : Option Found) (keeper keeper_now : KeeperTold) (sink sink_now : SinkTold) :
    Type 0 where
  pub ends : ends_unserved how ≡ true
  pub loads_once : keeper_now.calls ≡ one_more keeper.calls
  pub count_stays : how ≢ status.KeeperFailed → keeper_now.faults ≡ keeper.faults
  pub keeper_failed : how ≡ status.KeeperFailed → Rose keeper.faults keeper_now.faults × (keeper_now.is_open ≡ false)
  pub damaged_at : how ≡ status.Damaged → (number : ℕ) × IfSome found (λ f. IsDamagedAt f number)
      × Sent sink.written sink_now.written sink.faults sink_now.faults (damaged_line number)

-- what is told at one time of the devices of a session, and of the steps
pub record SessionTold : Type 0 where
  -- the source
  pub source : Reading
  -- what the sink holds
  pub written : Option (List ℕ)
  -- what a load of the store finds
  pub found : Option Found
  -- what the keeper tells
  pub keeper : KeeperTold
  -- how many steps were counted
  pub steps : ℕ
  -- what the clock tells
  pub clock : Option Moments

abbrev pub session_told : Reading → Option (List ℕ) → Option Found → KeeperTold → ℕ → Option Moments → SessionTold
session_told source written found keeper steps clock = record {
  source = source;
  written = written;
  found = found;
  keeper = keeper;
  steps = steps;
  clock = clock;
}

-- the store was opened, and from its state the source was served until that ended so
pub record ServedUntil (ended : Ended) (before now : SessionTold) : Type 0 where
  -- what the keeper tells, the state and the steps once the store is open
  pub keeper : KeeperTold
  pub state : State
  pub steps : ℕ
  pub opened : Opened before.found before.keeper before.steps keeper state steps
  pub after : State
  pub ends : EndsAs ended (world before.written state keeper steps before.clock)
      (world now.written after now.keeper now.steps now.clock) before.source now.source

-- the status of a session whose serving ended so
abbrev pub status_of : Ended → Status
status_of Done = status.Done
status_of Refused = status.Refused
status_of SourceFailed = status.SourceFailed
status_of SinkFailed = status.SinkFailed
status_of NoMemory = status.NoMemory

-- the status tells how the serving ended
abbrev pub SessionServed : Status → SessionTold → SessionTold → Type 0
SessionServed how before now = (ended : Ended) × (how ≡ status_of ended) × ServedUntil ended before now
