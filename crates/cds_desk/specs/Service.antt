-- How a connection is served: the items of what its client sends, one after the other, each with what is written for
-- it, what it changes, and what is kept of it.
use Rattle.std.specs.Prelude.{◌≡◌, ◌⊎◌, ℕ, ◌+◌, ◌≤◌, List, [], ◌∷◌, ◌++◌, codes, bytes_eq, Option, Some, None}
use Rattle.std.specs.Prelude.{is_some, IsTrue}
use Rattle.cds_desk.specs.State.{State, cost_of}
use Rattle.cds_sign.specs.declared.command.Change.{Change}
use Rattle.cds_http.specs.Items.{Message, Item, continue, request, fault}
use Rattle.cds_respond.specs.Fixed.{fault_text}
use Rattle.cds_respond.specs.Replies.{memory_reply, keeper_reply}
use Rattle.cds_respond.specs.Response.{response_text, continue_text}
use Rattle.cds_respond.specs.declared.reply.Reply.{Reply}
use Rattle.cds_desk.specs.Judged.{change_of}
use Rattle.cds_desk.specs.Step.{step, wanted, judged, records_of}
use Rattle.cds_desk.specs.Signing.{moments_for}

-- ---- responses

-- the response to a request, which closes the connection where the request asks for it
abbrev pub reply_to : Message → Reply → List ℕ
reply_to m reply = response_text reply m.close (bytes_eq m.method (codes "HEAD"))

-- ---- turns

-- what a turn, or several, took of the clock and of the counter of steps
pub record Used : Type 0 where
  -- the moments that the clock was asked for, in their order
  pub moments : List ℕ
  -- how many steps were taken
  pub cost : ℕ

-- how the turn of a request went, and what it used
pub data Way : Type 0 where
  -- it was served at this moment
  served : ℕ → Used → Way
  -- memory was wanting before anything was put to the keeper
  no_memory : Used → Way
  -- the keeper found no memory for the record
  not_kept : Used → Way
  -- the keeper failed
  keeper_failed : Used → Way

-- what came of a turn or of several
pub record Outcome : Type 0 where
  -- what was written
  pub written : List ℕ
  -- the state after it
  pub state : State
  -- the records that were kept
  pub records : List (List ℕ)
  -- how many records were put to the keeper, kept or not
  pub puts : ℕ
  -- how often the keeper failed
  pub failures : ℕ
  -- the moments that the clock was asked for, in their order
  pub moments : List ℕ
  -- how many steps were taken
  pub cost : ℕ

-- how many records are put for a change, if there is one
abbrev pub puts_for : Option Change → ℕ
puts_for (Some change) = 1
puts_for None = 0

-- the turn of a request that isn't served: this is replied, and the state is as before
abbrev pub unserved : State → Message → Reply → ℕ → ℕ → Used → Outcome
unserved state m reply puts failures used = record {
  written = reply_to m reply;
  state = state;
  records = [];
  puts = puts;
  failures = failures;
  moments = used.moments;
  cost = used.cost;
}

-- the turn of a request, which goes this way
abbrev pub turn : State → Message → Way → Outcome
turn state m (served moment used) = record {
  written = reply_to m (step state m moment).reply;
  state = (step state m moment).state;
  records = records_of (change_of (judged state m moment));
  puts = puts_for (change_of (judged state m moment));
  failures = 0;
  moments = used.moments;
  cost = used.cost;
}
turn state m (no_memory used) = unserved state m memory_reply 0 0 used
turn state m (not_kept used) = unserved state m memory_reply 1 0 used
turn state m (keeper_failed used) = unserved state m keeper_reply 1 1 used

-- the request has a change at this moment
abbrev pub HasChange : State → Message → ℕ → Type 0
HasChange state m moment = IsTrue (is_some (change_of (judged state m moment)))

-- What a turn may use of a request that is judged at this moment: the clock is asked for it once where a signature
-- would be made, and else not at all; and the steps are at most those that its change costs, and none where it has no
-- change.
pub record MayUse (state : State) (m : Message) (moment : ℕ) (used : Used) : Type 0 where
  pub moments : used.moments ≡ moments_for state (wanted state m) moment
  pub steps : used.cost ≤ cost_of state (change_of (judged state m moment))

-- what a turn may use where memory was wanting: the same, or it was wanting before the clock was asked
pub record MayStop (state : State) (m : Message) (moment : ℕ) (used : Used) : Type 0 where
  pub moments : (used.moments ≡ []) ⊎ (used.moments ≡ moments_for state (wanted state m) moment)
  pub steps : used.cost ≤ cost_of state (change_of (judged state m moment))

-- a record is put only for a request that has a change, and each turn uses no more than it may, whichever way it went
abbrev pub MayGo : State → Message → Way → Type 0
MayGo state m (served moment used) = MayUse state m moment used
MayGo state m (no_memory used) = (moment : ℕ) × MayStop state m moment used
MayGo state m (not_kept used) = (moment : ℕ) × HasChange state m moment × MayUse state m moment used
MayGo state m (keeper_failed used) = (moment : ℕ) × HasChange state m moment × MayUse state m moment used

-- an outcome, and then another
abbrev pub followed_by : Outcome → Outcome → Outcome
followed_by first second = record {
  written = first.written ++ second.written;
  state = second.state;
  records = first.records ++ second.records;
  puts = first.puts + second.puts;
  failures = first.failures + second.failures;
  moments = first.moments ++ second.moments;
  cost = first.cost + second.cost;
}

-- text is written, and nothing else happens
abbrev pub writes : State → List ℕ → Outcome
writes state text =
    record { written = text; state = state; records = []; puts = 0; failures = 0; moments = []; cost = 0 }

-- an item of the stream is served, with this outcome
abbrev pub ServesItem : State → Item → Outcome → Type 0
ServesItem state continue outcome = outcome ≡ writes state continue_text
ServesItem state (request m) outcome = (way : Way) × MayGo state m way × (outcome ≡ turn state m way)
ServesItem state (fault f) outcome = outcome ≡ writes state (fault_text f)

-- the items are served in their order, with this outcome in all
abbrev pub Serves : State → List Item → Outcome → Type 0
Serves state [] outcome = outcome ≡ writes state []
Serves state (item ∷ items) outcome =
    (first : Outcome) × (rest : Outcome) × ServesItem state item first × Serves first.state items rest
    × (outcome ≡ followed_by first rest)
