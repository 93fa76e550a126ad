-- Common divisors and multiples. `IsGcd` of std says that a number divides both of two numbers, and that
-- each number which divides both divides it.
use Rattle.std.specs.Prelude.{ℕ, zero, suc, Bool, cond}
use Rattle.std.specs.Int.{◌∣◌, IsGcd}

-- m is the least common multiple of a and b: both divide it, and it divides each number that both divide
abbrev pub IsLcm : ℕ → ℕ → ℕ → Type 0
IsLcm a b m = (a ∣ m) × (b ∣ m) × ((k : ℕ) → a ∣ k → b ∣ k → m ∣ k)

-- two numbers without a common divisor but 1
abbrev pub AreCoprime : ℕ → ℕ → Type 0
AreCoprime a b = IsGcd a b 1

-- the least of the numbers n, n + 1, .. that passes the test, tried `turns` times: past them all where none does
unfoldable pub least_from : (ℕ → Bool) → ℕ → ℕ → ℕ
least_from test n zero = n
least_from test n (suc turns) = cond (test n) n (least_from test (suc n) turns)
