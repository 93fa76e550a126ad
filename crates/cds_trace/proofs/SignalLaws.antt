-- Laws of sums of samples.
use Rattle.std.proofs.Common.{◌≡◌, ◌∙◌, ℕ, ◌+◌, ◌-◌, ◌<◌, ◌≤◌, ℤ, pos, neg_ℤ, ◌+ℤ◌, ◌-ℤ◌, ◌*ℤ◌, ◌≤ℤ◌, List, [], ◌∷◌, ◌++◌, All, fold, get_or, length, take, drop, arith, ap, subst, sym, inl, inr, w64}
use Rattle.std.specs.Cmp.{signed_Decides}
use Rattle.std.specs.Cmp.Lexicographic.{pointwise}
use Rattle.std.specs.Ordering.{int_eq}
use Rattle.std.proofs.lemmas.Slice.Eq.{slice_eq-Decides}
use Rattle.std.specs.Prelude.{Bool, IsTrue, refl, ◌⊎◌, FitsSigned, slice_range}
use Rattle.std.proofs.lemmas.Int.{ints}
use Rattle.std.proofs.lemmas.List.{get_or_read, get_or_append_left, get_or_push, length_push, take-append-drop, take-take, drop-take, length-take, length-drop}
use Rattle.std.proofs.lemmas.List.Elements.{All-head, All-tail, All-take, All-drop}
use Rattle.std.proofs.lemmas.List.Sums.{fold-append, fold_more}
use Rattle.cds_trace.specs.Signal.{Signal, IsSample, IsTrace, sum_between, total}
use Rattle.cds_trace.specs.Sums.{AreSums}
use Rattle.cds_trace.specs.Held.{IsHeld, signal_held}
use Rattle.cds_trace.specs.declared.trace.Trace.TheInside.{Inside}
use Rattle.cds_trace.specs.declared.trace.TheConstants.{GREATEST_SAMPLE, MOST_SAMPLES}

-- a sum that begins at a number is that number and the sum
pub fold-from : (a : ℤ) (xs : List ℤ) → fold ◌+ℤ◌ a xs ≡ a +ℤ total xs
fold-from a [] = omega (arith, ints)
fold-from a (x ∷ xs) = omega (arith, ints, fold-from (a +ℤ x) xs, fold-from (pos 0 +ℤ x) xs)

-- the sum of a list and then another is the sum of both sums
pub total-append : (xs ys : List ℤ) → total (xs ++ ys) ≡ total xs +ℤ total ys
total-append xs ys = fold-append ◌+ℤ◌ (pos 0) xs ys ∙ fold-from (total xs) ys

-- the first j elements are the first i and those from i to j - 1
pub take-split : {X : Type 0} (xs : List X) (i j : ℕ) → i ≤ j → take j xs ≡ take i xs ++ slice_range xs i j
take-split xs i j h =
    let whole : i + (j - i) ≡ j = omega arith in
    let front = take-take i j xs h in
    let back = rw whole at (drop-take i (j - i) xs) in
    sym (rw (front, back) at (take-append-drop i (take j xs)))

-- a sum of samples is the difference of two running sums
pub total-slice_range : (xs : List ℤ) (i j : ℕ) → i ≤ j → total (take j xs) ≡ total (take i xs) +ℤ total (slice_range xs i j)
total-slice_range xs i j h = ap total (take-split xs i j h) ∙ total-append (take i xs) (slice_range xs i j)

-- a sum of samples is at most the greatest sample for each, in absolute value
pub total-bounds : (xs : List ℤ) → All IsSample xs → (neg_ℤ (pos (length xs) *ℤ GREATEST_SAMPLE) ≤ℤ total xs) × (total xs ≤ℤ (pos (length xs) *ℤ GREATEST_SAMPLE))
total-bounds [] h = (omega (arith, ints), omega (arith, ints))
total-bounds (x ∷ xs) h =
    let rest = total-bounds xs (All-tail IsSample x xs h) in
    let first = All-head IsSample x xs h in
    (omega (arith, ints, fold-from (pos 0 +ℤ x) xs), omega (arith, ints, fold-from (pos 0 +ℤ x) xs))

-- what the difference of two running sums is, and how large it is
pub record IsSumBetween (signal : Signal) (i j : ℕ) (sum : ℤ) : Type 0 where
  pub value : sum ≡ sum_between signal i j
  pub least : neg_ℤ (pos (j - i) *ℤ GREATEST_SAMPLE) ≤ℤ sum
  pub greatest : sum ≤ℤ (pos (j - i) *ℤ GREATEST_SAMPLE)
  pub few : j - i ≤ MOST_SAMPLES

-- the running sum at j less the one at i is the sum of the samples from i to j - 1
pub sums-read : (xs sums : List ℤ) (period i j : ℕ) (a b : ℤ) → AreSums xs sums → IsTrace (record { period = period; samples = xs })
    → i ≤ j → j ≤ length xs → a ≡ get_or sums j a → b ≡ get_or sums i b → IsSumBetween (record { period = period; samples = xs }) i j (a -ℤ b)
sums-read xs sums period i j a b h trace order end ea eb =
    let at_j = get_or_read sums j a (omega (arith, h.whole)) ea (pos 0) ∙ h.each j end in
    let at_i = get_or_read sums i b (omega (arith, h.whole)) eb (pos 0) ∙ h.each i (omega arith) in
    let split = total-slice_range xs i j order in
    let size : length (slice_range xs i j) ≡ j - i = omega (arith, length-take (j - i) (drop i xs), length-drop i xs) in
    let bounds = rw size at (total-bounds (slice_range xs i j) (All-take IsSample (j - i) (drop i xs) (All-drop IsSample i xs trace.samples))) in
    record {
      value = omega (arith, ints, at_j, at_i, split);
      least = omega (arith, ints, at_j, at_i, split, bounds.0);
      greatest = omega (arith, ints, at_j, at_i, split, bounds.1);
      few = omega (arith, trace.few);
    }

-- the same of a trace as it is held
pub held-read : (held : Inside) (signal : Signal) (i j : ℕ) (a b : ℤ) → signal_held held ≡ signal → IsHeld held
    → i ≤ j → j ≤ length signal.samples → a ≡ get_or held.sums.items j a → b ≡ get_or held.sums.items i b → IsSumBetween signal i j (a -ℤ b)
held-read held signal i j a b seen h order end ea eb =
    let whole : j ≤ length held.samples.items = rw (← seen) at end in
    subst (λ (s : Signal). IsSumBetween s i j (a -ℤ b)) seen (sums-read held.samples.items held.sums.items held.period i j a b h.sums h.trace order whole ea eb)

-- one more sample of a running sum
pub total-more : (xs : List ℤ) (i : ℕ) (sum sample d : ℤ) → i < length xs → sum ≡ total (take i xs) → sample ≡ get_or xs i d → sum +ℤ sample ≡ total (take (i + 1) xs)
total-more xs i sum sample d h es ex = rw (es, ex) (sym (fold_more ◌+ℤ◌ (pos 0) xs i d h))

-- one more running sum
pub AreSums-more : (xs sums : List ℤ) (i : ℕ) (sum : ℤ) → i < length xs → sum ≡ total (take (i + 1) xs) → AreSums (take i xs) sums
    → AreSums (take (i + 1) xs) (sums ++ (sum ∷ []))
AreSums-more xs sums i sum h e are =
    let now = length-take (i + 1) xs in
    let before = length-take i xs in
    record {
      whole = omega (arith, length_push sums sum, are.whole);
      each = λ k below.
          let known : take k (take (i + 1) xs) ≡ take k xs = take-take k (i + 1) xs (omega arith) in
          elim (le-cases k i (omega arith)) [
            | inl less ↦
                let old : take k (take i xs) ≡ take k xs = take-take k i xs less in
                rw (get_or_append_left sums (sum ∷ []) (pos 0) k (omega (arith, are.whole)), known) (rw old at (are.each k (omega arith)))
            | inr last ↦ rw (known, last) (get_or_push sums sum (pos 0) (i + 1) (omega (arith, are.whole)) ∙ e)
          ];
    }
  where
    le-cases : (k n : ℕ) → k ≤ n + 1 → (k ≤ n) ⊎ (k ≡ n + 1)
    le-cases k n h = grind arith

-- a sum of the first samples fits
pub total-fits : (xs : List ℤ) (i : ℕ) (sum : ℤ) → length xs ≤ MOST_SAMPLES → All IsSample xs → sum ≡ total (take i xs) → FitsSigned w64 sum
total-fits xs i sum few range e =
    let size = length-take i xs in
    let bounds = total-bounds (take i xs) (All-take IsSample i xs range) in
    omega (arith, ints, e, bounds.0, bounds.1)

-- two signals are equal exactly where their periods and their samples are
pub Signal-same : (a b : Signal) (r : Bool) → a.period ≡ b.period → r ≡ pointwise int_eq a.samples b.samples → (IsTrue r → a ≡ b) × (a ≡ b → IsTrue r)
Signal-same a b r period e =
    let decides = slice_eq-Decides signed_Decides a.samples b.samples r e in
    ((λ t. fields a.period b.period a.samples b.samples period (decides.0 t)), (λ same. decides.1 (ap (λ (s : Signal). s.samples) same)))
  where
    fields : (p q : ℕ) (xs ys : List ℤ) → p ≡ q → xs ≡ ys → ◌≡◌ {A = Signal} (record { period = p; samples = xs }) (record { period = q; samples = ys })
    fields p q xs ys e f = rw (e, f) refl
