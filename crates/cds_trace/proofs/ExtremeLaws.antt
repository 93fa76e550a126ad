-- The first greatest sample of a range.
use Rattle.std.proofs.Common.{◌≡◌, ℕ, zero, suc, ◌+◌, ◌-◌, ◌<◌, ◌≤◌, Bool, true, false, ℤ, ◌≤ℤ◌, ◌<ℤ◌, refl, arith, ap, ◌∙◌, inl, inr}
use Rattle.std.specs.Prelude.{int_le}
use Rattle.std.specs.List.{range_with_len, list_all}
use Rattle.std.proofs.lemmas.Bool.{cases_eq, and_from, and_left, and_right}
use Rattle.std.proofs.lemmas.Int.{ints}
use Rattle.cds_trace.specs.Signal.{Signal, sample_at}
use Rattle.cds_base.specs.Search.{least}
use Rattle.cds_trace.specs.Extremes.{is_greatest, first_greatest}
use Rattle.cds_trace.proofs.LeastLaws.{least-skip, least-here}

-- the number that passes while none before it does is the least
least-is : (test : ℕ → Bool) (d k n i : ℕ) → i ≡ k + d → i < n → ((j : ℕ) → k ≤ j → j < i → test j ≡ false) → test i ≡ true → least test k n ≡ i
least-is test zero k n i e l fails passes =
    let same : k ≡ i = omega arith in
    rw same (least-here test i n l passes)
least-is test (suc d) k n i e l fails passes =
    least-skip test k n (omega arith) (fails k (omega arith) (omega arith)) ∙ least-is test d (k + 1) n i (omega arith) l (λ j a b. fails j (omega arith) b) passes

all-range : (test : ℕ → Bool) (a n : ℕ) → ((k : ℕ) → a ≤ k → k < a + n → test k ≡ true) → list_all test (range_with_len a n) ≡ true
all-range test a zero passes = refl
all-range test a (suc n) passes =
    and_from (test a) (list_all test (range_with_len (a + 1) n)) (passes a (omega arith) (omega arith)) (all-range test (a + 1) n (λ k l m. passes k (omega arith) (omega arith)))

all-range_fails : (test : ℕ → Bool) (a n k : ℕ) → a ≤ k → k < a + n → test k ≡ false → list_all test (range_with_len a n) ≡ false
all-range_fails test a zero k l m fails = absurd (omega arith)
all-range_fails test a (suc n) k l m fails = elim (cases_eq a k) [
  | inl e ↦ and_left (test a) (list_all test (range_with_len (a + 1) n)) (ap test e ∙ fails)
  | inr ne ↦ and_right (test a) (list_all test (range_with_len (a + 1) n)) (all-range_fails test (a + 1) n k (omega arith) (omega arith) fails)
]

at_most : (x y : ℤ) → x ≤ℤ y → int_le x y ≡ true
at_most x y l = grind (arith, ints)

above : (x y : ℤ) → y <ℤ x → int_le x y ≡ false
above x y l = grind (arith, ints)

-- a sample that is greater than all before it in the range, and not below any behind it, is the first greatest
pub first_greatest-is : (signal : Signal) (from to i : ℕ) → from ≤ i → i ≤ to → ((k : ℕ) → from ≤ k → k < i → sample_at signal k <ℤ sample_at signal i) → ((k : ℕ) → from ≤ k → k ≤ to → sample_at signal k ≤ℤ sample_at signal i) → first_greatest signal from to ≡ i
first_greatest-is signal from to i low high before most =
    least-is (is_greatest signal from to) (i - from) from (to + 1) i (omega arith) (omega arith)
    (λ j l m. all-range_fails (λ k. int_le (sample_at signal k) (sample_at signal j)) from (to + 1 - from) i low (omega arith) (above (sample_at signal i) (sample_at signal j) (before j l m)))
    (all-range (λ k. int_le (sample_at signal k) (sample_at signal i)) from (to + 1 - from) (λ k l m. at_most (sample_at signal k) (sample_at signal i) (most k l (omega arith))))
