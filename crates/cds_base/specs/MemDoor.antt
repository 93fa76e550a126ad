-- What the door in memory holds.
use Rattle.std.specs.Prelude.{◌≡◌, ℕ, ◌+◌, ◌≤◌, List, []}
use Rattle.std.specs.List.{All}
use Rattle.cds_base.specs.Failing.{FailingState}
use Rattle.cds_base.specs.Source.{SourceState}
use Rattle.cds_base.specs.Sink.{SinkState}
use Rattle.cds_base.specs.Door.{DoorState, Closed, closed_connection}

-- what it tells, the number of pairs that are taken and not closed, and which calls of `open` and `next` fail
pub record MemDoorState : Type 0 where
  pub told : DoorState
  pub pairs : ℕ
  pub failing : FailingState

-- the closed connection of a pair in memory
abbrev pub closed_pair : SourceState × SinkState → Closed
closed_pair pair = closed_connection pair.0.given pair.0.left pair.0.failing.faults pair.1.failing.faults pair.1.written

-- the byte string of a connection to come
abbrev pub bytes_of : SourceState × SinkState → List ℕ
bytes_of pair = pair.0.left

-- a pair that wasn't used: nothing was given or written, and no call failed
pub record IsUnused (pair : SourceState × SinkState) : Type 0 where
  pub given : pair.0.given ≡ []
  pub source_faults : pair.0.failing.faults ≡ 0
  pub written : pair.1.written ≡ []
  pub sink_faults : pair.1.failing.faults ≡ 0

-- the pairs to come are unused, and those that are closed, taken and to come find room among the closed
pub record HasRoom (coming : List (SourceState × SinkState)) (closed taken waiting room : ℕ) : Type 0 where
  pub unused : All IsUnused coming
  pub fits : closed + taken + waiting ≤ room
