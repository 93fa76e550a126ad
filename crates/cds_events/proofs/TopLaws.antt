-- The first greatest and the first least sample of a range, and the greatest of two ranges that meet.
use Rattle.std.proofs.Common.{◌≡◌, ℕ, ◌+◌, ◌-◌, ◌<◌, ◌≤◌, Bool, true, false, ℤ, ◌≤ℤ◌, ◌<ℤ◌, arith, inl, inr, ◌⊎◌}
use Rattle.std.specs.Prelude.{int_le}
use Rattle.std.proofs.lemmas.Bool.{cases_lt}
use Rattle.std.proofs.lemmas.Int.{ints}
use Rattle.cds_trace.specs.Signal.{Signal, sample_at}
use Rattle.cds_trace.specs.Extremes.{first_greatest, first_least}
use Rattle.cds_trace.specs.Standing.{IsCrest}
use Rattle.cds_events.proofs.FirstLaws.{IsOrder, IsFirstBest, first-best, first-best_is}

le_true : (x y : ℤ) → x ≤ℤ y → int_le x y ≡ true
le_true x y l = grind (arith, ints)

le_false : (x y : ℤ) → y <ℤ x → int_le x y ≡ false
le_false x y l = grind (arith, ints)

true_le : (x y : ℤ) → int_le x y ≡ true → x ≤ℤ y
true_le x y e = grind (arith, ints)

false_lt : (x y : ℤ) → int_le x y ≡ false → y <ℤ x
false_lt x y e = grind (arith, ints)

cases_le : (x y : ℤ) → (int_le x y ≡ true) ⊎ (int_le y x ≡ true)
cases_le x y = grind (arith, ints)

le_carries : (x y z : ℤ) → int_le x y ≡ true → int_le y z ≡ true → int_le x z ≡ true
le_carries x y z e f = grind (arith, ints)

abbrev not_above : Signal → ℕ → ℕ → Bool
not_above signal i k = int_le (sample_at signal k) (sample_at signal i)

abbrev not_below : Signal → ℕ → ℕ → Bool
not_below signal i k = int_le (sample_at signal i) (sample_at signal k)

greatest_order : (signal : Signal) → IsOrder (not_above signal)
greatest_order signal = record {
  total = λ i k. cases_le (sample_at signal k) (sample_at signal i);
  carries = λ i j k e f. le_carries (sample_at signal k) (sample_at signal j) (sample_at signal i) f e;
}

least_order : (signal : Signal) → IsOrder (not_below signal)
least_order signal = record {
  total = λ i k. cases_le (sample_at signal i) (sample_at signal k);
  carries = λ i j k e f. le_carries (sample_at signal i) (sample_at signal j) (sample_at signal k) e f;
}

-- a sample of a range that is greater than all before it and not less than any
pub record IsTop (signal : Signal) (from to i : ℕ) : Type 0 where
  pub low : from ≤ i
  pub high : i ≤ to
  pub before : (k : ℕ) → from ≤ k → k < i → sample_at signal k <ℤ sample_at signal i
  pub most : (k : ℕ) → from ≤ k → k ≤ to → sample_at signal k ≤ℤ sample_at signal i

pub first_greatest-is : (signal : Signal) (from to i : ℕ) → IsTop signal from to i → first_greatest signal from to ≡ i
first_greatest-is signal from to i top = first-best_is (not_above signal) from to i (record {
  low = top.low;
  high = top.high;
  most = λ k l m. le_true (sample_at signal k) (sample_at signal i) (top.most k l m);
  before = λ k l m. le_false (sample_at signal i) (sample_at signal k) (top.before k l m);
})

pub first_greatest-top : (signal : Signal) (from to : ℕ) → from ≤ to →
    IsTop signal from to (first_greatest signal from to)
first_greatest-top signal from to l =
    let top : ℕ = first_greatest signal from to in
    let found : IsFirstBest (not_above signal) from to top =
    first-best (not_above signal) (greatest_order signal) from to l in
    record {
      low = found.low;
      high = found.high;
      before = λ k a b. false_lt (sample_at signal top) (sample_at signal k) (found.before k a b);
      most = λ k a b. true_le (sample_at signal k) (sample_at signal top) (found.most k a b);
    }

-- a sample of a range that is less than all before it and not greater than any
pub first_least-is : (signal : Signal) (from to i : ℕ) → from ≤ i → i ≤ to →
    ((k : ℕ) → from ≤ k → k < i → sample_at signal i <ℤ sample_at signal k) →
    ((k : ℕ) → from ≤ k → k ≤ to → sample_at signal i ≤ℤ sample_at signal k) → first_least signal from to ≡ i
first_least-is signal from to i low high before most = first-best_is (not_below signal) from to i (record {
  low = low;
  high = high;
  most = λ k l m. le_true (sample_at signal i) (sample_at signal k) (most k l m);
  before = λ k l m. le_false (sample_at signal k) (sample_at signal i) (before k l m);
})

pub first_least-within : (signal : Signal) (from to : ℕ) → from ≤ to →
    (from ≤ first_least signal from to) × (first_least signal from to ≤ to)
first_least-within signal from to l =
    let found : IsFirstBest (not_below signal) from to (first_least signal from to) =
    first-best (not_below signal) (least_order signal) from to l in
    (found.low, found.high)

-- the first greatest sample of a range is a crest where it lies strictly inside
pub top-crest : (signal : Signal) (from to i : ℕ) → IsTop signal from to i → from < i → i < to → IsCrest signal i
top-crest signal from to i top l m = record {
  rises = top.before (i - 1) (omega arith) (omega arith);
  falls = top.most (i + 1) (omega arith) (omega arith);
}

below : (x y z : ℤ) → x ≤ℤ y → y <ℤ z → x <ℤ z
below x y z a b = omega (arith, ints)

up_to : (x y z : ℤ) → x ≤ℤ y → y ≤ℤ z → x ≤ℤ z
up_to x y z a b = omega (arith, ints)

under : (x y z : ℤ) → x ≤ℤ y → y <ℤ z → x ≤ℤ z
under x y z a b = omega (arith, ints)

split : (k mid : ℕ) → (k ≤ mid) ⊎ (mid ≤ k)
split k mid = elim (cases_lt mid k) [ inl l ↦ inr (omega arith) | inr l ↦ inl l ]

-- of two ranges that meet, the later one has the top of both where its own is higher
pub top-later : (signal : Signal) (from mid to a b : ℕ) → IsTop signal from mid a → IsTop signal mid to b →
    sample_at signal a <ℤ sample_at signal b → IsTop signal from to b
top-later signal from mid to a b first second higher =
    let y : ℕ → ℤ = sample_at signal in
    record {
      low = omega (arith, first.low, first.high, second.low);
      high = second.high;
      before = λ k l m. elim (split k mid) [
        | inl early ↦ below (y k) (y a) (y b) (first.most k l early) higher
        | inr late ↦ second.before k late m
      ];
      most = λ k l m. elim (split k mid) [
        | inl early ↦ under (y k) (y a) (y b) (first.most k l early) higher
        | inr late ↦ second.most k late m
      ];
    }

-- and else the earlier one
pub top-earlier : (signal : Signal) (from mid to a b : ℕ) → IsTop signal from mid a → IsTop signal mid to b →
    sample_at signal b ≤ℤ sample_at signal a → IsTop signal from to a
top-earlier signal from mid to a b first second lower =
    let y : ℕ → ℤ = sample_at signal in
    record {
      low = first.low;
      high = omega (arith, first.high, second.low, second.high);
      before = first.before;
      most = λ k l m. elim (split k mid) [
        | inl early ↦ first.most k l early
        | inr late ↦ up_to (y k) (y b) (y a) (second.most k late m) lower
      ];
    }
