-- The turn of one request, in its parts.
use Rattle.std.specs.Prelude.{◌≡◌, ℕ, ◌+◌, ◌≤◌, ◌++◌, Bool, true, List, Option, Some, None, option_map, is_some, IsTrue}
use Rattle.std.specs.Prelude.{⊤, codes}
use Rattle.std.specs.Prelude.{bytes_eq}
use Rattle.cds_base.specs.Failing.{one_more}
use Rattle.cds_base.specs.Faults.{Rose}
use Rattle.cds_desk.specs.State.{State, after_change}
use Rattle.cds_sign.specs.declared.command.Change.{Change}
use Rattle.cds_codec.specs.Record.{record_of}
use Rattle.cds_http.specs.Items.{Message}
use Rattle.cds_desk.specs.Routes.{target_of}
use Rattle.cds_keep.specs.Told.{KeeperTold}
use Rattle.cds_respond.specs.Fixed.{memory_text, keeper_text}
use Rattle.cds_desk.specs.Judged.{change_of}
use Rattle.cds_desk.specs.Step.{at_moment, wanted_route, records_of}
use Rattle.cds_desk.specs.declared.judged.Judged.{Judged}
use Rattle.cds_desk.specs.declared.judged.Wanted.{Wanted}
use Rattle.cds_desk.specs.declared.turn.Answered.{Answered}
use Rattle.cds_desk.specs.declared.turn.Answered.TheVariants.{Response, NoMemory, NotKept, KeeperFailed}
use Rattle.cds_desk.specs.declared.turn.Asked.{Asked}
use Rattle.cds_desk.specs.declared.turn.Kept.{Kept}

-- what a request wants
unfoldable pub wanted_of : State → Asked → Wanted
wanted_of state asked = wanted_route state (target_of asked.target.now) asked.method.now asked.body.now

-- what is judged of a request at a moment
abbrev pub judged_of : State → Asked → ℕ → Judged
judged_of state asked moment = at_moment state moment (wanted_of state asked)

-- the change that is to be kept is the one that was judged, with its record
abbrev pub KeepsChange : Option Change → Option Kept → Type 0
KeepsChange None None = ⊤
KeepsChange None (Some kept) = ⊥
KeepsChange (Some change) None = ⊥
KeepsChange (Some change) (Some kept) = (kept.change ≡ change) × (kept.record ≡ record_of change)

-- the request asks for what the message says
pub record Asks (asked : Asked) (m : Message) : Type 0 where
  pub method : asked.method.now ≡ m.method
  pub target : asked.target.now ≡ m.target
  pub body : asked.body.now ≡ m.body
  pub close : asked.close ≡ m.close
  pub without_body : asked.without_body ≡ bytes_eq m.method (codes "HEAD")

-- what is written for an answer
abbrev pub answered_text : Answered → Bool → Bool → List ℕ
answered_text (Response response) close without_body = response
answered_text NoMemory close without_body = memory_text close without_body
answered_text NotKept close without_body = memory_text close without_body
answered_text KeeperFailed close without_body = keeper_text close without_body

-- the count of the keeper's calls once the record of a change was put, if there is a change
abbrev pub calls_after : Option Change → ℕ → ℕ
calls_after (Some change) calls = one_more calls
calls_after None calls = calls

-- no more steps were counted than this
abbrev pub TakesSteps : ℕ → ℕ → ℕ → Type 0
TakesSteps most before now = (before ≤ now) × (now ≤ before + most)

-- How the clock was asked in a turn that was answered so: exactly where the request asks it, and where memory was
-- wanting not elsewhere.
abbrev pub AsksClock : Bool → Option ℕ → Answered → Type 0
AsksClock asks asked NoMemory = IsTrue (is_some asked) → asks ≡ true
AsksClock asks asked (Response response) = is_some asked ≡ asks
AsksClock asks asked NotKept = is_some asked ≡ asks
AsksClock asks asked KeeperFailed = is_some asked ≡ asks

-- what a turn changes: the state, and what the keeper tells
pub record Stored : Type 0 where
  pub state : State
  pub keeper : KeeperTold

abbrev pub stored : State → KeeperTold → Stored
stored state keeper = record { state = state; keeper = keeper }

-- What comes of a request that was judged so: its response, with what it changes; or that memory was wanting, or the
-- keeper failed, and nothing is changed. The record of a change is put once, and nothing else; the keeper's count of
-- faults rises only where the answer says that it failed.
abbrev pub Comes : Stored → Stored → Judged → List ℕ → Answered → Type 0
Comes before now j text (Response response) =
    (response ≡ text)
    × (now.state ≡ after_change before.state (change_of j))
    × (now.keeper.content ≡ option_map (λ list. list ++ records_of (change_of j)) before.keeper.content)
    × (now.keeper.faults ≡ before.keeper.faults)
    × (now.keeper.calls ≡ calls_after (change_of j) before.keeper.calls)
Comes before now j text NoMemory = now ≡ before
Comes before now j text NotKept =
    IsTrue (is_some (change_of j))
    × (now.state ≡ before.state)
    × (now.keeper.content ≡ before.keeper.content)
    × (now.keeper.faults ≡ before.keeper.faults)
    × (now.keeper.calls ≡ one_more before.keeper.calls)
Comes before now j text KeeperFailed =
    IsTrue (is_some (change_of j))
    × (now.state ≡ before.state)
    × (now.keeper.content ≡ before.keeper.content)
    × Rose before.keeper.faults now.keeper.faults
    × (now.keeper.calls ≡ one_more before.keeper.calls)
