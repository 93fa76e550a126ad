-- What a call that serves a connection leaves of the devices and of the state.
use Rattle.std.specs.Prelude.{◌≡◌, ◌⊎◌, ℕ, ◌<◌, ◌+◌, ◌≤◌, min, Bool, true, false, List, [], ◌∷◌, ◌++◌, length, Option}
use Rattle.std.specs.Prelude.{option_map, IfSome}
use Rattle.cds_base.specs.Faults.{most_faults}
use Rattle.cds_base.specs.Told.{then_more, more_before}
use Rattle.cds_base.specs.Clock.{Moments}
use Rattle.cds_desk.specs.State.{State}
use Rattle.cds_desk.specs.Signing.{ClockTold}
use Rattle.cds_http.specs.Items.{Item, continue, request, fault, HasItems}
use Rattle.cds_http.specs.Stream.{Stream, fed as fed_with}
use Rattle.cds_keep.specs.Found.{Found, FindsContent, FindsOneMoreAtMost}
use Rattle.cds_keep.specs.Told.{KeeperTold}
use Rattle.cds_respond.specs.Sending.{HoldsPart}
use Rattle.cds_desk.specs.Service.{Outcome, ServesItem, Serves}
use Rattle.cds_desk.specs.declared.serving.Ended.{Ended}
use Rattle.cds_desk.specs.declared.serving.Ended.TheVariants.{Done, Refused, SourceFailed, SinkFailed, NoMemory}

-- what outlives a connection at one time
pub record Lasting : Type 0 where
  pub state : State
  -- what the keeper tells
  pub keeper : KeeperTold
  -- how many steps were counted
  pub steps : ℕ
  -- what the clock tells
  pub clock : Option Moments

-- what is told at one time of the sink, and what outlives the connection
pub record World : Type 0 where
  -- what the sink holds
  pub written : Option (List ℕ)
  pub lasting : Lasting

-- what outlives a connection: the state, what the keeper tells, the steps, and what the clock tells
abbrev pub lasting : State → KeeperTold → ℕ → Option Moments → Lasting
lasting state keeper steps clock = record { state = state; keeper = keeper; steps = steps; clock = clock }

abbrev pub world : Option (List ℕ) → State → KeeperTold → ℕ → Option Moments → World
world written state keeper steps clock = record { written = written; lasting = lasting state keeper steps clock }

-- what is told at one time of the source
pub record Reading : Type 0 where
  pub given : Option (List ℕ)
  pub left : Option (List ℕ)

abbrev pub reading : Option (List ℕ) → Option (List ℕ) → Reading
reading given left = record { given = given; left = left }

-- The records of the outcome stand behind those that the keeper held, and the state is the outcome's. Each put was
-- counted, and no other call; each failure was counted, and where there was none, that count is as before. Each step
-- was counted, and the clock was asked for the outcome's moments, and no others.
pub record Changed (before now : Lasting) (outcome : Outcome) : Type 0 where
  pub content : now.keeper.content ≡ option_map (λ list. list ++ outcome.records) before.keeper.content
  pub state : now.state ≡ outcome.state
  pub puts : min (before.keeper.calls + outcome.puts) most_faults ≡ min now.keeper.calls most_faults
  pub failures : min (before.keeper.faults + outcome.failures) most_faults ≤ now.keeper.faults
  pub untouched : outcome.failures ≡ 0 → now.keeper.faults ≡ before.keeper.faults
  pub steps : now.steps ≡ before.steps + outcome.cost
  pub clock : ClockTold outcome.moments before.clock now.clock

-- What a load would find keeps step with what the keeper tells: if it was these records, or with one more behind them,
-- it still is. If it was exactly these records, it still is where no put failed since, which the count of faults shows
-- while it isn't at its greatest value.
pub record FindsOn (found now : Option Found) (before after : KeeperTold) : Type 0 where
  pub more : FindsOneMoreAtMost found before.content → FindsOneMoreAtMost now after.content
  pub exactly : after.faults ≡ before.faults → after.faults < most_faults → FindsContent found before.content
      → FindsContent now after.content

-- these bytes were read
pub record Read (before now : Reading) (bytes : List ℕ) : Type 0 where
  pub given : now.given ≡ then_more before.given bytes
  pub left : before.left ≡ more_before bytes now.left

-- an item was served, and all that is written for it stands in the sink
pub record ItemServed (before now : World) (item : Item) : Type 0 where
  pub outcome : Outcome
  pub serves : ServesItem before.lasting.state item outcome
  pub changed : Changed before.lasting now.lasting outcome
  pub written : now.written ≡ then_more before.written outcome.written

-- an item was served, and the sink failed in what is written for it, of which it holds a front
pub record ItemBroken (before now : World) (item : Item) : Type 0 where
  pub outcome : Outcome
  pub serves : ServesItem before.lasting.state item outcome
  pub changed : Changed before.lasting now.lasting outcome
  pub written : HoldsPart before.written now.written outcome.written

-- the items were served one after the other, each in the world that the one before it left
abbrev pub AreServed : World → List Item → World → Type 0
AreServed before [] now = now ≡ before
AreServed before (item ∷ items) now = (between : World) × ItemServed before between item × AreServed between items now

-- the items were served with one outcome in all
pub record InAll (before now : World) (items : List Item) : Type 0 where
  pub outcome : Outcome
  pub serves : Serves before.lasting.state items outcome
  pub changed : Changed before.lasting now.lasting outcome
  pub written : now.written ≡ then_more before.written outcome.written

-- the last item is a fault
abbrev pub is_refused : List Item → Bool
is_refused [] = false
is_refused (fault f ∷ []) = true
is_refused (continue ∷ []) = false
is_refused (request m ∷ []) = false
is_refused (item ∷ other ∷ items) = is_refused (other ∷ items)

-- the last item is a request that closes the connection
abbrev pub is_closed : List Item → Bool
is_closed [] = false
is_closed (request m ∷ []) = m.close
is_closed (continue ∷ []) = false
is_closed (fault f ∷ []) = false
is_closed (item ∷ other ∷ items) = is_closed (other ∷ items)

-- The items of the bytes that were read are these. Each was served and all that is written for it stands in the sink,
-- one after the other, which is one outcome in all. `ended` says that the source was read to its end.
pub record Served (before now : World) (from to : Reading) (ended : Bool) (items : List Item) : Type 0 where
  pub bytes : List ℕ
  pub read : Read from to bytes
  pub whole : ended ≡ true → IfSome to.left (λ rest. rest ≡ [])
  pub are_items : HasItems bytes ended items
  pub served : AreServed before items now
  pub in_all : InAll before now items

-- the source was read to its end without a fault, or to a request after which the connection closes by its own wish
abbrev pub IsDone : World → World → Reading → Reading → Type 0
IsDone before now from to =
    (ended : Bool) × (items : List Item) × Served before now from to ended items
    × (is_refused items ≡ false) × (((ended ≡ true) × (is_closed items ≡ false))
    ⊎ ((ended ≡ false) × (is_closed items ≡ true)))

-- the last item is a fault
abbrev pub IsRefused : World → World → Reading → Reading → Type 0
IsRefused before now from to =
    (ended : Bool) × (items : List Item) × Served before now from to ended items × (is_refused items ≡ true)

-- the bytes that were read before the source failed were served
abbrev pub IsSourceFailed : World → World → Reading → Reading → Type 0
IsSourceFailed before now from to =
    (items : List Item) × Served before now from to false items × (is_refused items ≡ false) × (is_closed items ≡ false)

-- The sink failed at an item: those before it were served whole, and of what is written for it a front stands in the
-- sink. The items of the bytes that were read begin with them.
pub record IsSinkFailed (before now : World) (from to : Reading) : Type 0 where
  pub bytes : List ℕ
  pub ended : Bool
  pub read : Read from to bytes
  pub whole : ended ≡ true → IfSome to.left (λ rest. rest ≡ [])
  -- the items that were served whole, and the one at which the sink failed
  pub items : List Item
  pub item : Item
  pub begins : (all : List Item) → HasItems bytes ended all → (later : List Item)
      × (all ≡ (items ++ item ∷ []) ++ later)
  pub between : World
  pub served : AreServed before items between
  pub in_all : InAll before between items
  pub broken : ItemBroken between now item

-- the serving of a connection ended so; for want of memory nothing happened
abbrev pub EndsAs : Ended → World → World → Reading → Reading → Type 0
EndsAs Done before now from to = IsDone before now from to
EndsAs Refused before now from to = IsRefused before now from to
EndsAs SourceFailed before now from to = IsSourceFailed before now from to
EndsAs SinkFailed before now from to = IsSinkFailed before now from to
EndsAs NoMemory before now from to = (now ≡ before) × (to ≡ from)

-- the bytes of the stream were asked for once more: these came, and nothing where the source has ended
pub record ReadOn (from to : Reading) (before now : Stream) (count : ℕ) : Type 0 where
  pub bytes : List ℕ
  pub read : Read from to bytes
  pub length_is : length bytes ≡ count
  pub ended : count ≡ 0 → (now ≡ before) × IfSome to.left (λ rest. rest ≡ [])
  pub fed : 0 < count → now ≡ fed_with before bytes
