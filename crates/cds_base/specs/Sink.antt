-- What a sink tells, and what the object in memory that takes bytes holds.
use Rattle.std.specs.Prelude.{ℕ, List, length, min, Option}
use Rattle.cds_base.specs.Failing.{FailingState}

-- the bytes written, where they are told, and how many of its calls failed
pub record SinkTold : Type 0 where
  pub written : Option (List ℕ)
  pub faults : ℕ

-- bytes written, the most that one call takes, and which calls fail
pub record SinkState : Type 0 where
  pub written : List ℕ
  pub piece : ℕ
  pub failing : FailingState

-- how many bytes of a piece a call takes: all of them, or as many as one call takes
abbrev pub taken_at_once : SinkState → List ℕ → ℕ
taken_at_once sink piece = min (length piece) sink.piece
