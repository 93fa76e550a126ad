-- How a search for the greatest or the least number that passes a test goes on, and how it ends.
use Rattle.std.proofs.Common.{◌≡◌, ℕ, suc, ◌+◌, ◌-◌, ◌<◌, ◌≤◌, Bool, true, false, Some, None, refl, arith}
use Rattle.cds_figures.specs.Crossings.{last_passing, first_passing}

-- a last number that doesn't pass is passed over
pub last-skip : (test : ℕ → Bool) (from i : ℕ) → from < i → test (i - 1) ≡ false → last_passing test from (i - from) ≡ last_passing test from (i - 1 - from)
last-skip test from i some fails =
    let count : i - from ≡ suc (i - 1 - from) = omega arith in
    let at : from + (i - 1 - from) ≡ i - 1 = omega arith in
    rw (count, at, fails) refl

-- one that passes is the greatest
pub last-here : (test : ℕ → Bool) (from i : ℕ) → from < i → test (i - 1) ≡ true → last_passing test from (i - from) ≡ Some (i - 1)
last-here test from i some passes =
    let count : i - from ≡ suc (i - 1 - from) = omega arith in
    let at : from + (i - 1 - from) ≡ i - 1 = omega arith in
    rw (count, at, passes) refl

-- where nothing is left none passes
pub last-end : (test : ℕ → Bool) (from i : ℕ) → i ≤ from → last_passing test from (i - from) ≡ None
last-end test from i end =
    let count : i - from ≡ 0 = omega arith in
    rw count refl

-- a first number that doesn't pass is passed over
pub first-skip : (test : ℕ → Bool) (i end : ℕ) → i < end → test i ≡ false → first_passing test i (end - i) ≡ first_passing test (i + 1) (end - (i + 1))
first-skip test i end some fails =
    let count : end - i ≡ suc (end - (i + 1)) = omega arith in
    rw (count, fails) refl

-- one that passes is the least
pub first-here : (test : ℕ → Bool) (i end : ℕ) → i < end → test i ≡ true → first_passing test i (end - i) ≡ Some i
first-here test i end some passes =
    let count : end - i ≡ suc (end - (i + 1)) = omega arith in
    rw (count, passes) refl

-- where nothing is left none passes
pub first-end : (test : ℕ → Bool) (i end : ℕ) → end ≤ i → first_passing test i (end - i) ≡ None
first-end test i end l =
    let count : end - i ≡ 0 = omega arith in
    rw count refl
