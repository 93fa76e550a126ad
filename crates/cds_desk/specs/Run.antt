-- What each command leaves of the devices that it is given.
use Rattle.std.specs.Prelude.{◌≡◌, ◌≢◌, ◌⊎◌, ◌<◌, ◌≤◌, ℕ, true, false, List, [], Option, Some, None, IfSome, codes}
use Rattle.cds_base.specs.Door.{DoorTold}
use Rattle.cds_base.specs.Faults.{Rose, most_faults}
use Rattle.cds_base.specs.Sink.{SinkTold}
use Rattle.cds_base.specs.Source.{SourceTold}
use Rattle.cds_base.specs.Told.{then_more}
use Rattle.cds_keep.specs.Found.{Found, FindsContent, FindsOneMoreAtMost, records}
use Rattle.cds_keep.specs.Told.{KeeperTold}
use Rattle.cds_respond.specs.Sending.{HoldsPart, Sent}
use Rattle.cds_base.specs.Clock.{Moments}
use Rattle.cds_desk.specs.PeaksAnswer.{peaks_answer}
use Rattle.cds_desk.specs.Serve.{Listens, served}
use Rattle.cds_desk.specs.Serving.{lasting, reading}
use Rattle.cds_desk.specs.Session.{SessionTold, session_told, SessionServed, IsDamagedAt, Opened, Unopened}
use Rattle.cds_desk.specs.State.{State}
use Rattle.cds_desk.specs.Statuses.{is_served, ends_unserved, ends_peaks}
use Rattle.cds_words.specs.Commands.{TopCommand, peaks, session, serve, demo, migrate}
use Rattle.cds_desk.specs.declared.answer.Answer.{Answer}
use Rattle.cds_desk.specs.declared.status.Status.{Status}
use Rattle.cds_desk.specs.declared.status.Status.TheVariants.{Done, Refused, NoCommand, SourceFailed, SinkFailed}
use Rattle.cds_desk.specs.declared.status.Status.TheVariants.{KeeperFailed, NoMemory, Damaged}
use Rattle.cds_words.specs.declared.command.PeaksOptions.{PeaksOptions}

-- ---- the source and the sink

-- the source and the sink of a command at one time, with what they tell
pub record Streams (S W : Type 0) : Type 0 where
  pub source : S
  pub source_told : SourceTold
  pub sink : W
  pub sink_told : SinkTold

-- source and sink as they are at one time
abbrev pub streams : {S W : Type 0} → S → SourceTold → W → SinkTold → Streams S W
streams source source_told sink sink_told =
    record { source = source; source_told = source_told; sink = sink; sink_told = sink_told }

-- What the end of a command tells of its source and its sink: a read that failed ends it as such, whatever the bytes
-- are, and it ends so only after such a read; a sink is told to have failed only where it did.
pub record StreamsEnd {S W : Type 0} (ended : Status) (before now : Streams S W) : Type 0 where
  pub failed_read : ended ≢ SourceFailed → now.source_told.faults ≡ before.source_told.faults
  pub source_failed : ended ≡ SourceFailed → Rose before.source_told.faults now.source_told.faults
  pub sink_failed : ended ≡ SinkFailed → Rose before.sink_told.faults now.sink_told.faults
  pub done_failed_no_write : ended ≡ Done → now.sink_told.faults ≡ before.sink_told.faults
  pub no_memory_writes_nothing : ended ≡ NoMemory → now.sink ≡ before.sink
  pub source_counts : before.source_told.faults ≤ now.source_told.faults
  pub sink_counts : before.sink_told.faults ≤ now.sink_told.faults

-- ---- `peaks`

-- the fact of the answer of `peaks` with these options to these bytes, where the bytes are told
abbrev pub OfBytes : PeaksOptions → Option (List ℕ) → (Answer → Type 0) → Type 0
OfBytes options bytes P = IfSome bytes (λ b. P (peaks_answer options b))

-- what `peaks` leaves
pub record PeaksRan {S W : Type 0} (options : PeaksOptions) (ended : Status) (before now : Streams S W) : Type 0 where
  pub ends : ends_peaks ended ≡ true
  -- the whole table of the source's bytes, read to their end
  pub done : ended ≡ Done → OfBytes options before.source_told.left (λ answer.
      (answer.status ≡ Done) × (now.sink_told.written ≡ then_more before.sink_told.written answer.text))
  pub read_to_the_end : ended ≡ Done → IfSome now.source_told.left (λ rest. rest ≡ [])
  -- the line of the refusal, whole unless the sink failed
  pub refused : ended ≡ Refused → OfBytes options before.source_told.left (λ answer. (answer.status ≡ Refused)
      × Sent before.sink_told.written now.sink_told.written before.sink_told.faults now.sink_told.faults answer.text)
  pub source_failed_writes_nothing : ended ≡ SourceFailed → now.sink ≡ before.sink
  -- a front of the table
  pub sink_failed_in_table : ended ≡ SinkFailed → OfBytes options before.source_told.left (λ answer.
      (answer.status ≡ Done) × HoldsPart before.sink_told.written now.sink_told.written answer.text)

-- ---- `session`

-- the devices of a command at one time, with what they tell, and the steps
pub record Devices (S W K C : Type 0) : Type 0 where
  pub streams : Streams S W
  pub keeper : K
  pub keeper_told : KeeperTold
  -- what a load of each store finds
  pub finds : List ℕ → Option Found
  -- how many steps were counted
  pub steps : ℕ
  pub clock : C
  pub clock_told : Option Moments

-- the devices as they are at one time
abbrev pub devices : {S W K C : Type 0} → Streams S W → K → KeeperTold → (List ℕ → Option Found) → ℕ → C
    → Option Moments → Devices S W K C
devices s keeper keeper_told finds steps clock clock_told = record {
  streams = s;
  keeper = keeper;
  keeper_told = keeper_told;
  finds = finds;
  steps = steps;
  clock = clock;
  clock_told = clock_told;
}

-- what the devices tell of a session over a store
abbrev pub told_of : {S W K C : Type 0} → List ℕ → Devices S W K C → SessionTold
told_of store d =
    session_told (reading d.streams.source_told.given d.streams.source_told.left) d.streams.sink_told.written
    (d.finds store) d.keeper_told d.steps d.clock_told

-- a session over a store was served
pub record SessionGone {S W K C : Type 0} (store : List ℕ) (ended : Status)
    (before now : Devices S W K C) : Type 0 where
  pub served : SessionServed ended (told_of store before) (told_of store now)
  pub stays_open : now.keeper_told.is_open ≡ true
  -- what the next load finds, under any name
  pub finds_more : (name : List ℕ) → FindsOneMoreAtMost (now.finds name) now.keeper_told.content
  pub finds_exactly : now.keeper_told.faults ≡ before.keeper_told.faults → now.keeper_told.faults < most_faults
      → (name : List ℕ) → FindsContent (now.finds name) now.keeper_told.content

-- a session over a store ended before anything was served: the store wasn't opened, or memory was wanting once it was
pub record SessionUnserved {S W K C : Type 0} (store : List ℕ) (ended : Status)
    (before now : Devices S W K C) : Type 0 where
  pub unopened : Unopened ended (before.finds store) before.keeper_told now.keeper_told
      before.streams.sink_told now.streams.sink_told
  pub stores_nothing : now.finds store ≡ before.finds store
  pub reads_nothing : now.streams.source ≡ before.streams.source
  pub quiet : ended ≢ Damaged → now.streams.sink ≡ before.streams.sink
  -- a store without records is opened in no step
  pub counts : before.steps ≤ now.steps
  pub no_step : IfSome (before.finds store) (λ found. found ≡ records [] → now.steps ≡ before.steps)
  pub asks_no_clock : now.clock ≡ before.clock

-- what a session over a store leaves
pub record SessionRan {S W K C : Type 0} (store : List ℕ) (ended : Status) (before now : Devices S W K C) : Type 0 where
  pub is_command : ended ≢ NoCommand
  pub served : is_served ended ≡ true → SessionGone store ended before now
  pub unserved : ends_unserved ended ≡ true → SessionUnserved store ended before now
  pub damaged_only : IfSome (before.finds store)
      (λ found. (number : ℕ) → IsDamagedAt found number → ends_unserved ended ≡ true)
  -- with no other end than that of a sink that failed a write of a response failed
  pub failed_write : is_served ended ≡ true → ended ≢ SinkFailed
      → now.streams.sink_told.faults ≡ before.streams.sink_told.faults
  pub keeper_counts : before.keeper_told.faults ≤ now.keeper_told.faults

-- ---- `serve`

-- the devices and the door of a command at one time, with what the door tells
pub record Outside (S W K C D : Type 0) : Type 0 where
  pub devices : Devices S W K C
  pub door : D
  pub door_told : DoorTold

-- the devices and the door as they are at one time
abbrev pub outside : {S W K C D : Type 0} → Devices S W K C → D → DoorTold → Outside S W K C D
outside devices door door_told = record { devices = devices; door = door; door_told = door_told }

-- what a server is given, at one time: all of these but the source
pub record Server (W C D : Type 0) : Type 0 where
  pub sink : W
  pub sink_told : SinkTold
  pub keeper_told : KeeperTold
  -- what a load of each store finds
  pub finds : List ℕ → Option Found
  pub steps : ℕ
  pub clock : C
  pub clock_told : Option Moments
  pub door : D
  pub door_told : DoorTold

abbrev pub server : {W C D : Type 0} → W → SinkTold → KeeperTold → (List ℕ → Option Found) → ℕ → C → Option Moments
    → D → DoorTold → Server W C D
server sink sink_told keeper_told finds steps clock clock_told door door_told = record {
  sink = sink;
  sink_told = sink_told;
  keeper_told = keeper_told;
  finds = finds;
  steps = steps;
  clock = clock;
  clock_told = clock_told;
  door = door;
  door_told = door_told;
}

-- these devices but the source
abbrev pub server_of : {S W K C D : Type 0} → Outside S W K C D → Server W C D
server_of o =
    server o.devices.streams.sink o.devices.streams.sink_told o.devices.keeper_told o.devices.finds o.devices.steps
    o.devices.clock o.devices.clock_told o.door o.door_told

-- the store was opened, and connections of the door at this port were served over it, up to this number
pub record ServeGone {W C D : Type 0} (port number : ℕ) (store : List ℕ) (ended : Status) (before now : Server W C D) :
    Type 0 where
  -- what the keeper tells, the state and the steps once the store is open
  pub keeper : KeeperTold
  pub state : State
  pub steps : ℕ
  pub opened : Opened (before.finds store) before.keeper_told before.steps keeper state steps
  pub after : State
  pub listens : Listens ended port number (served (lasting state keeper steps before.clock_told) before.door_told)
      (served (lasting after now.keeper_told now.steps now.clock_told) now.door_told)
  pub quiet : now.sink ≡ before.sink
  pub stays_open : now.keeper_told.is_open ≡ true
  -- what the next load finds, under any name
  pub finds_more : (name : List ℕ) → FindsOneMoreAtMost (now.finds name) now.keeper_told.content

-- the store wasn't opened, and nothing was served
pub record ServeUnopened {W C D : Type 0} (store : List ℕ) (ended : Status) (before now : Server W C D) : Type 0 where
  pub unopened : Unopened ended (before.finds store) before.keeper_told now.keeper_told before.sink_told now.sink_told
  pub quiet : ended ≢ Damaged → now.sink ≡ before.sink
  pub door_stays : now.door ≡ before.door
  pub asks_no_clock : now.clock ≡ before.clock

-- what `serve` leaves
pub record ServeRan {W C D : Type 0} (port number : ℕ) (store : List ℕ) (ended : Status) (before now : Server W C D) :
    Type 0 where
  pub ran : ServeGone port number store ended before now ⊎ ServeUnopened store ended before now
  pub damaged_only : IfSome (before.finds store)
      (λ found. (at : ℕ) → IsDamagedAt found at → ends_unserved ended ≡ true)
  pub keeper_counts : before.keeper_told.faults ≤ now.keeper_told.faults

-- ---- the top call

-- what is written where the words are no command
abbrev pub usage_line : List ℕ
usage_line = codes "usage: cds peaks|session|serve|demo|migrate\n"

-- what words that are no command leave
pub record UsageTold {S W : Type 0} (ended : Status) (before now : Streams S W) : Type 0 where
  pub is_none : ended ≡ NoCommand
  pub sent : Sent before.sink_told.written now.sink_told.written before.sink_told.faults now.sink_told.faults usage_line
  pub reads_nothing : now.source ≡ before.source

-- what a command that the program has leaves, and what words leave that state none; only a session and a server take the keeper and the clock, and only a
-- server the door
abbrev pub Ran : {S W K C D : Type 0} → Option TopCommand → Status → Outside S W K C D → Outside S W K C D → Type 0
Ran (Some (peaks options)) ended before now =
    PeaksRan options ended before.devices.streams now.devices.streams
    × (now.devices.keeper ≡ before.devices.keeper) × (now.devices.clock ≡ before.devices.clock)
    × (now.door ≡ before.door)
Ran (Some (session store)) ended before now =
    SessionRan store ended before.devices now.devices × (now.door ≡ before.door)
Ran (Some (serve port number store)) ended before now =
    ServeRan port number store ended (server_of before) (server_of now)
    × (now.devices.streams.source ≡ before.devices.streams.source)
Ran (Some (demo seed rows)) ended before now = ⊥
Ran (Some (migrate store)) ended before now = ⊥
Ran None ended before now =
    UsageTold ended before.devices.streams now.devices.streams × (now.devices.keeper ≡ before.devices.keeper)
    × (now.devices.steps ≡ before.devices.steps) × (now.devices.clock ≡ before.devices.clock)
    × (now.door ≡ before.door)
