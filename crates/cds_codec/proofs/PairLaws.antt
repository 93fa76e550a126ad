-- Names that rise, and names that are different, by tests of pairs.
use Rattle.std.proofs.Common.{◌≡◌, ℕ, Bool, true, false, List, [], ◌∷◌, refl}
use Rattle.std.specs.Prelude.{◌&&◌, not, map}
use Rattle.std.specs.List.{AllByRecursion, IsDistinct, list_all}
use Rattle.std.specs.List.Sorted.{IsStrictlySortedBy}
use Rattle.std.specs.Ordering.{is_lt}
use Rattle.std.specs.Str.{bytes_eq}
use Rattle.std.specs.declared.cmp.Ordering.{Ordering}
use Rattle.std.specs.declared.cmp.Ordering.TheVariants.{Less, Equal, Greater}
use Rattle.cds_base.specs.Named.{AreRising, byte_cmp}
use Rattle.cds_codec.specs.Reading.{are_different, are_rising, in_pairs, is_before, is_other}

-- two tests that passed
pub both_passed : (a b : Bool) → (a && b) ≡ true → (a ≡ true) × (b ≡ true)
both_passed true b h = (refl, h)
both_passed false b h = absurd cc

both_pass : (a b : Bool) → a ≡ true → b ≡ true → (a && b) ≡ true
both_pass a b h k = rw (h, k) refl

-- before, and different
is_lt-Less : (o : Ordering) → is_lt o ≡ true → o ≡ Less
is_lt-Less Less h = refl
is_lt-Less Equal h = absurd cc
is_lt-Less Greater h = absurd cc

not-false : (b : Bool) → not b ≡ true → b ≡ false
not-false true h = absurd cc
not-false false h = refl

-- each item passes
all_passed : {A B : Type 0} (test : A → Bool) (h : A → B) (R : B → Type 0) → ((x : A) → test x ≡ true → R (h x))
    → (xs : List A) → list_all test xs ≡ true → AllByRecursion R (map h xs)
all_passed test h R each [] passed = tt
all_passed test h R each (x ∷ xs) passed = let p = both_passed _ _ passed in
    (each x p.0, all_passed test h R each xs p.1)

all_pass : {A B : Type 0} (test : A → Bool) (h : A → B) (R : B → Type 0) → ((x : A) → R (h x) → test x ≡ true)
    → (xs : List A) → AllByRecursion R (map h xs) → list_all test xs ≡ true
all_pass test h R each [] all = refl
all_pass test h R each (x ∷ xs) all = both_pass _ _ (each x all.0) (all_pass test h R each xs all.1)

-- amounts whose names rise
pub rising_passed : (xs : List (List ℕ × ℕ)) → are_rising xs ≡ true → AreRising (map (λ a. a.0) xs)
unfolding in_pairs IsStrictlySortedBy
rising_passed [] h = tt
rising_passed (x ∷ xs) h =
    let p = both_passed _ _ h in (
      all_passed (λ a. is_before x.0 a.0) (λ a. a.0) (λ y. byte_cmp x.0 y ≡ Less)
          (λ a t. is_lt-Less (byte_cmp x.0 a.0) t) xs p.0,
      rising_passed xs p.1,
    )

pub rising_pass : (xs : List (List ℕ × ℕ)) → AreRising (map (λ a. a.0) xs) → are_rising xs ≡ true
unfolding in_pairs IsStrictlySortedBy
rising_pass [] h = refl
rising_pass (x ∷ xs) h =
    both_pass _ _ (all_pass (λ a. is_before x.0 a.0) (λ a. a.0) (λ y. byte_cmp x.0 y ≡ Less) (λ a t. rw t refl) xs h.0)
    (rising_pass xs h.1)

-- names that are different
map_same : {A : Type 0} (xs : List A) → map (λ x. x) xs ≡ xs
map_same [] = refl
map_same (x ∷ xs) = rw (map_same xs) refl

pub different_passed : (xs : List (List ℕ)) → are_different xs ≡ true → IsDistinct bytes_eq xs
unfolding in_pairs IsDistinct
different_passed [] h = tt
different_passed (x ∷ xs) h =
    let p = both_passed _ _ h in (
      rw map_same at (all_passed (is_other x) (λ y. y) (λ y. bytes_eq x y ≡ false) (λ y t. not-false (bytes_eq x y) t)
          xs
          p.0),
      different_passed xs p.1,
    )

pub different_pass : (xs : List (List ℕ)) → IsDistinct bytes_eq xs → are_different xs ≡ true
unfolding in_pairs IsDistinct
different_pass [] h = refl
different_pass (x ∷ xs) h =
    both_pass _ _ (all_pass (is_other x) (λ y. y) (λ y. bytes_eq x y ≡ false) (λ y t. rw t refl) xs
    (rw (map_same xs) h.0)) (different_pass xs h.1)
