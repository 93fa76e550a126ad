-- The least and the greatest number of a range that passes a test.
use Rattle.std.specs.Prelude.{◌≡◌, ℕ, zero, suc, ◌-◌, ◌≤◌, Bool, true, cond}
use Rattle.std.specs.List.{range_with_len, find}
use Rattle.std.specs.Option.{unwrap_or}

-- the least number from `from` on that passes the test, or `end` where none below `end` does
unfoldable pub least : (ℕ → Bool) → ℕ → ℕ → ℕ
least test from end = unwrap_or (find test (range_with_len from (end - from))) end

-- the greatest of the numbers 0 to n that passes the test, 0 where none does
unfoldable pub greatest : (ℕ → Bool) → ℕ → ℕ
greatest test zero = zero
greatest test (suc n) = cond (test (suc n)) (suc n) (greatest test n)

-- the test passes at 0, and below each number at which it passes
pub record PassesFromBelow (test : ℕ → Bool) : Type 0 where
  pub start : test 0 ≡ true
  pub below : (j k : ℕ) → j ≤ k → test k ≡ true → test j ≡ true
