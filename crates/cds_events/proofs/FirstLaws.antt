-- The first number of a range that passes a test, and the first best one by a test of pairs.
use Rattle.std.proofs.Common.{◌≡◌, ℕ, zero, suc, ◌+◌, ◌-◌, ◌<◌, ◌≤◌, Bool, true, false, Option, Some, refl, arith, ap}
use Rattle.std.proofs.Common.{sym, ◌∙◌, inl, inr, ◌⊎◌}
use Rattle.std.specs.List.{range_with_len, find, list_all}
use Rattle.std.proofs.lemmas.Bool.{cases_eq, cases_Bool, and_from, and_parts, both_ways, false_from_ne_true}
use Rattle.cds_base.specs.Search.{least}

-- the number that passes while none before it does is found
find-is : (test : ℕ → Bool) (d k n i : ℕ) → i ≡ k + d → d < n → ((j : ℕ) → k ≤ j → j < i → test j ≡ false) →
    test i ≡ true → find test (range_with_len k n) ≡ Some i
find-is test d k zero i e l fails passes = absurd (omega arith)
find-is test zero k (suc n) i e l fails passes =
    let same : i ≡ k = omega arith in
    let here : test k ≡ true = ap test (sym same) ∙ passes in
    rw (here, same) refl
find-is test (suc d) k (suc n) i e l fails passes =
    let before : test k ≡ false = fails k (omega arith) (omega arith) in
    rw before (find-is test d (k + 1) n i (omega arith) (omega arith) (λ j a b. fails j (omega arith) b) passes)

pub first-is : (test : ℕ → Bool) (from to i : ℕ) → from ≤ i → i ≤ to → ((j : ℕ) → from ≤ j → j < i → test j ≡ false) →
    test i ≡ true → least test from (to + 1) ≡ i
unfolding least
first-is test from to i low high fails passes =
    rw (find-is test (i - from) from (to + 1 - from) i (omega arith) (omega arith) fails passes) refl

-- what is found where there is a number that passes
record Found (test : ℕ → Bool) (k n i : ℕ) : Type 0 where
  is : find test (range_with_len k n) ≡ Some i
  low : k ≤ i
  high : i < k + n
  passes : test i ≡ true
  fails : (j : ℕ) → k ≤ j → j < i → test j ≡ false

find-here : (test : ℕ → Bool) (k n : ℕ) → test k ≡ true → find test (range_with_len k (suc n)) ≡ Some k
find-here test k n here = rw here refl

find-skip : (test : ℕ → Bool) (k n : ℕ) (found : Option ℕ) → test k ≡ false →
    find test (range_with_len (k + 1) n) ≡ found → find test (range_with_len k (suc n)) ≡ found
find-skip test k n found before is = rw before is

found : (test : ℕ → Bool) (k n some : ℕ) → k ≤ some → some < k + n → test some ≡ true → (i : ℕ) × Found test k n i
found test k zero some l m passes = absurd (omega arith)
found test k (suc n) some l m passes = elim (cases_Bool (test k)) [
  | inl here ↦ (
    k,
    record {
      is = find-here test k n here;
      low = omega arith;
      high = omega arith;
      passes = here;
      fails =
          λ j a b. absurd (omega arith);
    },
  )
  | inr before ↦ (
      let other : (k ≡ some) → ⊥ = λ e. both_ways (test k) before (ap test e ∙ passes) in
      let later = found test (k + 1) n some (omega arith) (omega arith) passes in (
        later.0,
        record {
          is = find-skip test k n (Some later.0) before later.1.is;
          low = omega (arith, later.1.low);
          high = omega (arith, later.1.high);
          passes = later.1.passes;
          fails = λ j a b. elim (cases_eq k j) [
            | inl e ↦ ap test (sym e) ∙ before
            | inr ne ↦ later.1.fails j (omega arith) b
          ];
        },
      ))
]

-- a test of pairs that compares all numbers, and carries over
pub record IsOrder (beats : ℕ → ℕ → Bool) : Type 0 where
  pub total : (i k : ℕ) → (beats i k ≡ true) ⊎ (beats k i ≡ true)
  pub carries : (i j k : ℕ) → beats i j ≡ true → beats j k ≡ true → beats i k ≡ true

itself : (beats : ℕ → ℕ → Bool) → IsOrder beats → (i : ℕ) → beats i i ≡ true
itself beats order i = elim (order.total i i) [ inl e ↦ e | inr e ↦ e ]

best : (beats : ℕ → ℕ → Bool) → IsOrder beats → (k n : ℕ) →
    (i : ℕ) × (k ≤ i) × (i ≤ k + n) × ((m : ℕ) → k ≤ m → m ≤ k + n → beats i m ≡ true)
best beats order k zero =
    (k, omega arith, omega arith, λ m a b. let e : k ≡ m = omega arith in ap (beats k) (sym e) ∙ itself beats order k)
best beats order k (suc n) =
    let so_far = best beats order k n in
    let last : ℕ = k + suc n in
    elim (order.total so_far.0 last) [
      | inl stays ↦ (
        so_far.0,
        omega (arith, so_far.1),
        omega (arith, so_far.2),
        λ m a b. elim (cases_eq m last) [
          | inl e ↦ ap (beats so_far.0) e ∙ stays
          | inr ne ↦ so_far.3 m a (omega arith)
        ],
      )
      | inr changes ↦ (
        last,
        omega arith,
        omega arith,
        λ m a b. elim (cases_eq m last) [
          | inl e ↦ ap (beats last) e ∙ itself beats order last
          | inr ne ↦ order.carries last so_far.0 m changes (so_far.3 m a (omega arith))
        ],
      )
    ]

all-range : (test : ℕ → Bool) (a n : ℕ) → ((k : ℕ) → a ≤ k → k < a + n → test k ≡ true) →
    list_all test (range_with_len a n) ≡ true
all-range test a zero passes = refl
all-range test a (suc n) passes =
    and_from (test a) (list_all test (range_with_len (a + 1) n)) (passes a (omega arith) (omega arith))
    (all-range test (a + 1) n (λ k l m. passes k (omega arith) (omega arith)))

all-range_tells : (test : ℕ → Bool) (a n k : ℕ) → a ≤ k → k < a + n → list_all test (range_with_len a n) ≡ true →
    test k ≡ true
all-range_tells test a zero k l m all = absurd (omega arith)
all-range_tells test a (suc n) k l m all =
    let parts = and_parts (test a) (list_all test (range_with_len (a + 1) n)) all in
    elim (cases_eq k a) [
      | inl e ↦ ap test e ∙ parts.0
      | inr ne ↦ all-range_tells test (a + 1) n k (omega arith) (omega arith) parts.1
    ]

-- the first best number of a range
pub record IsFirstBest (beats : ℕ → ℕ → Bool) (from to i : ℕ) : Type 0 where
  pub low : from ≤ i
  pub high : i ≤ to
  pub most : (k : ℕ) → from ≤ k → k ≤ to → beats i k ≡ true
  pub before : (k : ℕ) → from ≤ k → k < i → beats k i ≡ false

abbrev pub is_best : (ℕ → ℕ → Bool) → ℕ → ℕ → ℕ → Bool
is_best beats from to i = list_all (beats i) (range_with_len from (to + 1 - from))

pub first-best_is : (beats : ℕ → ℕ → Bool) (from to i : ℕ) → IsFirstBest beats from to i →
    least (is_best beats from to) from (to + 1) ≡ i
first-best_is beats from to i first_best =
    first-is (is_best beats from to) from to i first_best.low first_best.high
    (λ j l m. false_from_ne_true (is_best beats from to j) (λ all.
    both_ways (beats j i) (first_best.before j l m) (all-range_tells (beats j) from (to + 1 - from) i first_best.low
    (omega (arith, first_best.high)) all)))
    (all-range (beats i) from (to + 1 - from) (λ k l m. first_best.most k l (omega arith)))

pub first-best : (beats : ℕ → ℕ → Bool) → IsOrder beats → (from to : ℕ) → from ≤ to →
    IsFirstBest beats from to (least (is_best beats from to) from (to + 1))
unfolding least
first-best beats order from to l =
    let some = best beats order from (to - from) in
    let all : is_best beats from to some.0 ≡ true =
    all-range (beats some.0) from (to + 1 - from) (λ k a b. some.3 k a (omega arith)) in
    let here = found (is_best beats from to) from (to + 1 - from) some.0 some.1 (omega (arith, some.2)) all in
    let top : ℕ = here.0 in
    let most : (k : ℕ) → from ≤ k → k ≤ to →
    beats top k ≡ true = λ k a b. all-range_tells (beats top) from (to + 1 - from) k a
    (omega arith) here.1.passes in
    let found_best : IsFirstBest beats from to top = record {
      low = here.1.low;
      high = omega (arith, here.1.high);
      most = most;
      before = λ k a b. false_from_ne_true (beats k top) (λ beaten.
          both_ways (is_best beats from to k) (here.1.fails k a b)
          (all-range (beats k) from (to + 1 - from) (λ m c d. order.carries k top m beaten (most m c (omega arith)))));
    } in
    rw here.1.is found_best
