-- The command `serve`: connections are taken from a door, served over the store, and closed, one after the other.
use Rattle.std.specs.Prelude.{◌≡◌, ◌≢◌, ◌≤◌, ◌<◌, ◌⊎◌, ℕ, List, [], ◌∷◌, ◌++◌, length, get_or, Option, Some, option_map, IfSome, All}
use Rattle.cds_base.specs.Door.{DoorState, DoorTold, Closed, closed_of, first_taken, opened_at, with_closed}
use Rattle.cds_base.specs.Faults.{Rose}
use Rattle.cds_base.specs.Sink.{SinkTold}
use Rattle.cds_base.specs.Source.{SourceTold}
use Rattle.cds_desk.specs.Serving.{EndsAs, Lasting, World, reading}
use Rattle.cds_desk.specs.declared.serving.Ended.{Ended}
use Rattle.cds_desk.specs.declared.serving.Ended.TheVariants as ending
use Rattle.cds_desk.specs.declared.serve.Taken.{Taken}
use Rattle.cds_desk.specs.declared.serve.Taken.TheVariants as taken
use Rattle.cds_desk.specs.declared.status.Status.{Status}
use Rattle.cds_desk.specs.declared.status.Status.TheVariants.{Done, DoorFailed, NoMemory}

-- one connection: how its serving ended, and what its source and its sink told when it was taken and when it was closed
pub record Visit : Type 0 where
  pub ended : Ended
  pub source : SourceTold
  pub sink : SinkTold
  pub source_closed : SourceTold
  pub sink_closed : SinkTold

-- what outlives a connection of a server: what outlives its serving, and what the door tells
pub record Served : Type 0 where
  pub lasting : Lasting
  pub door : DoorTold

abbrev pub served : Lasting → DoorTold → Served
served lasting door = record { lasting = lasting; door = door }

-- the sink of a connection, and what outlives it
abbrev pub world_of : SinkTold → Lasting → World
world_of sink lasting = record { written = sink.written; lasting = lasting }

-- a connection was served until that ended so: otherwise than at its own end or at a fault of its stream only where a
-- count of its own rose, or memory was wanting before anything was read
pub record IsServed (before now : Lasting) (v : Visit) : Type 0 where
  pub ends : EndsAs v.ended (world_of v.sink before) (world_of v.sink_closed now)
      (reading v.source.given v.source.left) (reading v.source_closed.given v.source_closed.left)
  pub failed_read : v.ended ≢ ending.SourceFailed → v.source_closed.faults ≡ 0
  pub source_failed : v.ended ≡ ending.SourceFailed → Rose 0 v.source_closed.faults
  pub failed_write : v.ended ≢ ending.SinkFailed → v.sink_closed.faults ≡ 0
  pub sink_failed : v.ended ≡ ending.SinkFailed → Rose 0 v.sink_closed.faults

-- The connection was the first to come, nothing of it was given and nothing written when it was taken, and it stands as
-- it was closed behind the closed ones.
pub record PassesDoor (v : Visit) (door : DoorState) (now : Option DoorState) : Type 0 where
  pub comes : v.source.left ≡ Some (get_or door.coming 0 [])
  pub unread : v.source.given ≡ Some []
  pub unwritten : v.sink.written ≡ Some []
  pub connection : Closed
  pub is_closed : closed_of v.source_closed v.sink_closed ≡ Some connection
  pub closes : now ≡ Some (with_closed connection (first_taken door))

-- a connection was taken from the door, served and closed
pub record IsVisited (before now : Served) (v : Visit) : Type 0 where
  pub serves : IsServed before.lasting now.lasting v
  pub passes : IfSome before.door.connections (λ door. PassesDoor v door now.door.connections)
  pub pairs : now.door.pairs ≡ before.door.pairs
  pub faults : now.door.faults ≡ before.door.faults

-- connections were taken, served and closed, one after the other
abbrev pub AreVisited : Served → List Visit → Served → Type 0
AreVisited before [] now = now ≡ before
AreVisited before (v ∷ visits) now = (between : Served) × IsVisited before between v × AreVisited between visits now

-- memory was not wanting for the serving of a connection
abbrev pub HadMemory : Visit → Type 0
HadMemory v = v.ended ≢ ending.NoMemory

-- the door failed: its count rose, and all else that it tells is as before
pub record FailsDoor (before now : DoorTold) : Type 0 where
  pub rose : Rose before.faults now.faults
  pub connections : now.connections ≡ before.connections
  pub pairs : now.pairs ≡ before.pairs

-- what came of one connection: it was served and closed, also where memory was wanting for it, or the door failed
abbrev pub TakesOne : Taken → Served → Served → Type 0
TakesOne taken.Closed before now = (v : Visit) × IsVisited before now v × HadMemory v
TakesOne taken.NoMemory before now = (v : Visit) × IsVisited before now v × (v.ended ≡ ending.NoMemory)
TakesOne taken.DoorFailed before now = (now.lasting ≡ before.lasting) × FailsDoor before.door now.door

-- How the serving of a stated number of connections ended after these visits: all were served; or the door failed at the
-- next one; or memory was wanting for the last one.
abbrev pub VisitsEnd : Status → ℕ → List Visit → Served → Served → Type 0
VisitsEnd how number visits between now =
    ((how ≡ Done) × (length visits ≡ number) × All HadMemory visits × (now ≡ between))
    ⊎ (((how ≡ DoorFailed) × (length visits < number) × All HadMemory visits × (now.lasting ≡ between.lasting)
    × FailsDoor between.door now.door)
    ⊎ ((how ≡ NoMemory) × (length visits ≤ number) × (now ≡ between)
    × ((front : List Visit) × (last : Visit) × (visits ≡ front ++ last ∷ []) × All HadMemory front
    × (last.ended ≡ ending.NoMemory))))

-- connections of a door that listens were served, up to a stated number
pub record Visited (how : Status) (number : ℕ) (before now : Served) : Type 0 where
  pub visits : List Visit
  pub between : Served
  pub are_visited : AreVisited before visits between
  pub ends : VisitsEnd how number visits between now

-- the door listens at this port, or it failed, and then nothing was served
abbrev pub Listens : Status → ℕ → ℕ → Served → Served → Type 0
Listens how port number before now =
    ((how ≡ DoorFailed) × (now.lasting ≡ before.lasting) × FailsDoor before.door now.door)
    ⊎ ((door : DoorTold) × (door.connections ≡ option_map (opened_at port) before.door.connections)
    × (door.pairs ≡ before.door.pairs) × (door.faults ≡ before.door.faults)
    × Visited how number (served before.lasting door) now)
