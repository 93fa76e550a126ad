-- How a search for the least number goes on, and within which bounds it ends.
use Rattle.std.proofs.Common.{◌≡◌, ℕ, zero, suc, ◌+◌, ◌-◌, ◌<◌, ◌≤◌, Bool, true, false, cond, Some, refl, arith, unwrap_or}
use Rattle.std.specs.List.{range_with_len, find}
use Rattle.cds_base.specs.Search.{least}

-- a number that doesn't pass is passed over
pub least-skip : (test : ℕ → Bool) (k n : ℕ) → k < n → test k ≡ false → least test k n ≡ least test (k + 1) n
unfolding least
least-skip test k n l e =
    let d : n - k ≡ suc (n - (k + 1)) = omega arith in
    rw d (rw e refl)

-- the first number that passes is the least
pub least-here : (test : ℕ → Bool) (k n : ℕ) → k < n → test k ≡ true → least test k n ≡ k
unfolding least
least-here test k n l e =
    let d : n - k ≡ suc (n - (k + 1)) = omega arith in
    rw d (rw e refl)

-- where nothing is left the search ends
pub least-end : (test : ℕ → Bool) (k n : ℕ) → n ≤ k → least test k n ≡ n
unfolding least
least-end test k n l =
    let d : n - k ≡ 0 = omega arith in
    rw d refl

pub ruleset searching = (least-skip, least-here, least-end)

-- what is found stands between the ends of the search
found-between : (test : ℕ → Bool) (from len end : ℕ) → from + len ≡ end → (from ≤ unwrap_or (find test (range_with_len from len)) end) × (unwrap_or (find test (range_with_len from len)) end ≤ end)
found-between test from zero end e = (omega arith, omega arith)
found-between test from (suc len) end e =
    let later = found-between test (from + 1) len end (omega arith) in
    elim (test from) as (λ b. let found : ℕ = unwrap_or (cond b (Some from) (find test (range_with_len (from + 1) len))) end in (from ≤ found) × (found ≤ end)) [
      | true ↦ (omega arith, omega arith)
      | false ↦ (omega (arith, later.0), later.1)
    ]

pub least-low : (test : ℕ → Bool) (k n : ℕ) → k ≤ n → k ≤ least test k n
unfolding least
least-low test k n l = (found-between test k (n - k) n (omega arith)).0

pub least-high : (test : ℕ → Bool) (k n : ℕ) → k ≤ n → least test k n ≤ n
unfolding least
least-high test k n l = (found-between test k (n - k) n (omega arith)).1
