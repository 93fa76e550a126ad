-- What a source tells, and what the objects in memory that give bytes hold.
use Rattle.std.specs.Prelude.{ℕ, List, length, min, Option}
use Rattle.cds_base.specs.Failing.{FailingState}

-- the bytes given and those left, where they are told; how many bytes it may still give; how many of its calls failed
pub record SourceTold : Type 0 where
  pub given : Option (List ℕ)
  pub left : Option (List ℕ)
  pub bound : ℕ
  pub faults : ℕ

-- bytes given and left, the most that one call gives, and which calls fail
pub record SourceState : Type 0 where
  pub given : List ℕ
  pub left : List ℕ
  pub piece : ℕ
  pub failing : FailingState

-- how many bytes a call with so much room gives: as many as are left, as there is room for, and as one call gives
abbrev pub given_at_once : SourceState → ℕ → ℕ
given_at_once source room = min (min (length source.left) room) source.piece
