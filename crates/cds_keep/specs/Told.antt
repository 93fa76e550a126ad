-- What a store tells of itself at one time.
use Rattle.std.specs.Prelude.{ℕ, Bool, List, Option}

-- its records, whether it is open, and how it was called
pub record KeeperTold : Type 0 where
  -- the records that it holds, where it tells them
  pub content : Option (List (List ℕ))
  -- whether a store is open
  pub is_open : Bool
  -- how many of its calls failed, up to 2^64 - 1
  pub faults : ℕ
  -- how many calls of `load` and `put` there were, up to 2^64 - 1
  pub calls : ℕ
