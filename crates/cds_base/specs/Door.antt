-- What a door tells: where it listens, the connections to come and the closed ones.
use Rattle.std.specs.Prelude.{ℕ, ◌-◌, List, [], ◌∷◌, ◌++◌, length, take, drop, Option, Some, option_map}
use Rattle.std.specs.Option.{option_and_then}
use Rattle.cds_base.specs.Sink.{SinkTold}
use Rattle.cds_base.specs.Source.{SourceTold}

-- a closed connection: the bytes that its source gave, those that are left of it, the counts of faults of its source
-- and its sink, and the bytes that its sink took
pub record Closed : Type 0 where
  pub given : List ℕ
  pub left : List ℕ
  pub source_faults : ℕ
  pub sink_faults : ℕ
  pub written : List ℕ

-- the port of the last opening that succeeded, the byte strings of the connections to come, and the closed
-- connections in the order of their closing
pub record DoorState : Type 0 where
  pub port : Option ℕ
  pub coming : List (List ℕ)
  pub closed : List Closed

-- what a door tells: the above, where it is told; how many pairs were taken and not closed; how many calls failed
pub record DoorTold : Type 0 where
  pub connections : Option DoorState
  pub pairs : ℕ
  pub faults : ℕ

-- the door once it was opened at this port
abbrev pub opened_at : ℕ → DoorState → DoorState
opened_at port door = record { port = Some port; coming = door.coming; closed = door.closed }

-- the door once the first connection to come was taken
abbrev pub first_taken : DoorState → DoorState
first_taken door = record { port = door.port; coming = drop 1 door.coming; closed = door.closed }

-- the door with one more closed connection
abbrev pub with_closed : Closed → DoorState → DoorState
with_closed connection door = record { port = door.port; coming = door.coming; closed = door.closed ++ connection ∷ [] }

-- the door before its last connection was closed
abbrev pub before_closing : DoorState → DoorState
before_closing door = record {
  port = door.port;
  coming = door.coming;
  closed = take (length door.closed - 1) door.closed;
}

-- the closed connection of which this is told
abbrev pub closed_connection : List ℕ → List ℕ → ℕ → ℕ → List ℕ → Closed
closed_connection given left source_faults sink_faults written = record {
  given = given;
  left = left;
  source_faults = source_faults;
  sink_faults = sink_faults;
  written = written;
}

-- the closed connection of a source and a sink that tell these, where both tell their content
abbrev pub closed_of : SourceTold → SinkTold → Option Closed
closed_of input output =
    option_and_then (λ given. option_and_then (λ left. option_map (λ written.
    closed_connection given left input.faults output.faults written) output.written) input.left) input.given
