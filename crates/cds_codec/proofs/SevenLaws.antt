-- Numbers in bytes of 7 bits: how great they are.
use Rattle.std.proofs.Common.{◌≡◌, ℕ, zero, suc, ◌+◌, ◌*◌, ◌-◌, ◌^◌, ◌<◌, ◌≤◌, arith}
use Rattle.std.proofs.Math.Nat.{pow-succ'}

-- so many sevens of bits
pub sevens-size : (turns low high : ℕ) → 0 < turns → low < 128 → high < 128 ^ (turns - 1)
    → low + 128 * high < 128 ^ turns
sevens-size zero low high some small few = absurd (omega arith)
sevens-size (suc turns) low high some small few =
    let less : turns ≡ suc turns - 1 = omega arith in
    let below : high < 128 ^ turns = rw less few in
    let next = pow-succ' 128 turns in
    omega (arith, next, below)

-- a power is at least 1
pub some_power : (n : ℕ) → 1 ≤ 128 ^ n
some_power zero = omega arith
some_power (suc n) = omega (arith, pow-succ' 128 n, some_power n)

-- at most five of them are 35 bits
pub five_sevens : (turns : ℕ) → turns ≤ 5 → 128 ^ turns ≤ 2 ^ 35
five_sevens zero few = omega arith
five_sevens (suc zero) few = omega arith
five_sevens (suc (suc zero)) few = omega arith
five_sevens (suc (suc (suc zero))) few = omega arith
five_sevens (suc (suc (suc (suc zero)))) few = omega arith
five_sevens (suc (suc (suc (suc (suc zero))))) few = omega arith
five_sevens (suc (suc (suc (suc (suc (suc more)))))) few = absurd (omega arith)
