-- What the stores in memory hold.
use Rattle.std.specs.Prelude.{ℕ, Bool, List}
use Rattle.cds_base.specs.Failing.{FailingState}

-- the records, whether the store is open, and which calls of `load` and `put` fail
pub record MapState : Type 0 where
  pub content : List (List ℕ)
  pub is_open : Bool
  pub failing : FailingState

-- the records, whether the store is open, and how many calls of `load` and `put` there were
pub record NoFailState : Type 0 where
  pub content : List (List ℕ)
  pub is_open : Bool
  pub calls : ℕ
