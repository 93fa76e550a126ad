-- Lists as the loops over rows, points and lines take them.
use Rattle.std.proofs.Common.{◌≡◌, ◌∙◌, ℕ, zero, suc, ◌+◌, ◌<◌, ◌≤◌, Bool}
use Rattle.std.proofs.Common.{true, false, cond, List, [], ◌∷◌, ◌++◌, length, get_or}
use Rattle.std.proofs.Common.{take, map, Option, Some, None, option_map, find, refl, sym, ap, subst, arith}
use Rattle.std.specs.Prelude.{All, insert, option_to_list}
use Rattle.std.specs.List.{filter_map, cons_option}
use Rattle.std.proofs.lemmas.List.{take_more, map-append, get_or-map, length-map}
use Rattle.std.proofs.Math.Seq.{take-length}
use Rattle.std.proofs.lemmas.List.Elements.{All-head, All-tail, All-cons, All-nil, filter_map-append}
use Rattle.std.proofs.lemmas.List.FromFn.{get_or-enumerate_from, length-enumerate_from}
use Rattle.cds_graph.specs.Rows.{with_numbers}

-- what holds of each item as it is seen
pub All-seen : {X Y : Type 0} (P : Y → Type 0) (seen : X → Y) (xs : List X) → All P (map seen xs) →
    All (λ x. P (seen x)) xs
All-seen P seen [] each = All-nil (λ x. P (seen x))
All-seen P seen (x ∷ xs) each =
    All-cons (λ x. P (seen x)) x xs (All-head P (seen x) (map seen xs) each)
    (All-seen P seen xs (All-tail P (seen x) (map seen xs) each))

-- the first item as it is seen
pub find-seen : {X Y : Type 0} (test : Y → Bool) (seen : X → Y) (xs : List X) →
    find test (map seen xs) ≡ option_map seen (find (λ x. test (seen x)) xs)
find-seen test seen [] = refl
find-seen {X} test seen (x ∷ xs) = by_test (test (seen x)) (find-seen test seen xs)
  where
    by_test : (b : Bool) → find test (map seen xs) ≡ option_map seen (find (λ x. test (seen x)) xs) →
        cond b (Some (seen x)) (find test (map seen xs))
        ≡ option_map seen (cond b (Some x) (find (λ x. test (seen x)) xs))
    by_test true later = refl
    by_test false later = later

-- what holds of each item holds of the one that is found
pub find-All : {X : Type 0} (P : X → Type 0) (test : X → Bool) (xs : List X) (found : X) → All P xs →
    find test xs ≡ Some found → P found
find-All P test [] found each is = cc
find-All {X} P test (x ∷ xs) found each is =
    by_test (test x) (find-All P test xs found (All-tail P x xs each)) is
  where
    by_test : (b : Bool) → (find test xs ≡ Some found → P found) → cond b (Some x) (find test xs) ≡ Some found →
        P found
    by_test true later here =
        let one : x ≡ found = cc in
        subst P one (All-head P x xs each)
    by_test false later here = later here

-- what is left out of the front of a list is left out again
pub take-front : {X : Type 0} (n : ℕ) (xs ys : List X) → take n (take n xs ++ ys) ≡ take n (xs ++ ys)
take-front zero xs ys = refl
take-front (suc n) [] ys = refl
take-front (suc n) (x ∷ xs) ys = ap (λ zs. x ∷ zs) (take-front n xs ys)

-- no further item where there is no room
pub take-full : {X : Type 0} (n : ℕ) (xs ys : List X) → n ≤ length (take n xs) → take n (xs ++ ys) ≡ take n xs
take-full zero xs ys full = refl
take-full (suc n) [] ys full = absurd (omega (arith, full))
take-full (suc n) (x ∷ xs) ys full = ap (λ zs. x ∷ zs) (take-full n xs ys (omega (arith, full)))

-- what is given of items as they are seen
pub filter_map-seen : {X Y Z : Type 0} (gives : Y → Option Z) (seen : X → Y) (xs : List X) →
    filter_map gives (map seen xs) ≡ filter_map (λ x. gives (seen x)) xs
filter_map-seen gives seen [] = refl
filter_map-seen gives seen (x ∷ xs) = ap (cons_option (gives (seen x))) (filter_map-seen gives seen xs)

-- the item at a place with its number
pub numbered-at : {X : Type 0} (xs : List X) (i : ℕ) (x : X) → i < length xs → x ≡ get_or xs i x →
    (i + 1, x) ≡ get_or (with_numbers xs) i (i + 1, x)
numbered-at xs i x within is =
    let at : 1 + i ≡ i + 1 = omega arith in
    let found = get_or-enumerate_from 1 xs i (i + 1, x) within in
    sym (found ∙ ap (λ n. (n, get_or xs i x)) at ∙ ap (λ y. (i + 1, y)) (sym is))

-- the same, of items as they are seen
pub numbered-seen : {X Y : Type 0} (seen : X → Y) (xs : List X) (i : ℕ) (x : X) → i < length xs → x ≡ get_or xs i x →
    (i + 1, seen x) ≡ get_or (with_numbers (map seen xs)) i (i + 1, seen x)
numbered-seen seen xs i x within is =
    numbered-at (map seen xs) i (seen x) (omega (arith, length-map xs seen, within))
    (ap seen is ∙ sym (get_or-map seen xs i x (seen x) within))

-- as many items with their numbers as items
length-numbered : {X Y : Type 0} (seen : X → Y) (xs : List X) → length (with_numbers (map seen xs)) ≡ length xs
length-numbered seen xs = length-enumerate_from 1 (map seen xs) ∙ length-map xs seen

-- a place among items is one among them with their numbers
pub numbered-within : {X Y : Type 0} (seen : X → Y) (xs : List X) (i : ℕ) → i < length xs →
    i < length (with_numbers (map seen xs))
numbered-within seen xs i within = omega (arith, within, length-numbered seen xs)

-- all of the items with their numbers
pub numbered-whole : {X Y : Type 0} (seen : X → Y) (xs : List X) (n : ℕ) → n ≡ length xs →
    take n (with_numbers (map seen xs)) ≡ with_numbers (map seen xs)
numbered-whole seen xs n whole =
    ap (λ k. take k (with_numbers (map seen xs))) (whole ∙ sym (length-numbered seen xs))
    ∙ take-length (with_numbers (map seen xs))

-- one more item with its number
pub map-numbered : {X Y : Type 0} (f : ℕ × X → Y) (xs : List X) (i : ℕ) (x : X) (y : Y) (ys : List Y) → i < length xs →
    x ≡ get_or xs i x → y ≡ f (i + 1, x) → ys ≡ map f (take i (with_numbers xs)) →
    ys ++ y ∷ [] ≡ map f (take (i + 1) (with_numbers xs))
map-numbered f xs i x y ys within is gives so_far =
    let w = with_numbers xs in
    let inside : i < length w = omega (arith, length-enumerate_from 1 xs, within) in
    rw (
      take_more w i (i + 1, x) inside,
      ← numbered-at xs i x within is,
      map-append f (take i w) ((i + 1, x) ∷ []),
      so_far,
      gives,
    ) refl

-- all of them
pub map-numbered_whole : {X Y : Type 0} (f : ℕ × X → Y) (xs : List X) (n : ℕ) → n ≡ length xs →
    map f (take n (with_numbers xs)) ≡ map f (with_numbers xs)
map-numbered_whole f xs n whole =
    ap (λ k. map f (take k (with_numbers xs))) (whole ∙ sym (length-enumerate_from 1 xs))
    ∙ ap (map f) (take-length (with_numbers xs))

-- an item behind all others
pub insert-end : {X : Type 0} (xs : List X) (y : X) (n : ℕ) → n ≡ length xs → insert xs n y ≡ xs ++ y ∷ []
insert-end {X} xs y n whole = ap (λ k. insert xs k y) whole ∙ at_end xs
  where
    at_end : (zs : List X) → insert zs (length zs) y ≡ zs ++ y ∷ []
    at_end [] = refl
    at_end (z ∷ zs) = ap (λ rest. z ∷ rest) (at_end zs)

-- a list that is short enough
pub take-whole : {X : Type 0} (n : ℕ) (xs : List X) → length xs ≤ n → take n xs ≡ xs
take-whole zero [] few = refl
take-whole zero (x ∷ xs) few = absurd (omega (arith, few))
take-whole (suc n) [] few = refl
take-whole (suc n) (x ∷ xs) few = ap (λ rest. x ∷ rest) (take-whole n xs (omega (arith, few)))

-- what one item more gives
cons-one : {Y : Type 0} (o : Option Y) → cons_option o [] ≡ option_to_list o
cons-one None = refl
cons-one (Some y) = refl

pub given-one : {X Y : Type 0} (gives : X → Option Y) (xs : List X) (i : ℕ) (x : X) → i < length xs →
    x ≡ get_or xs i x → filter_map gives (take (i + 1) xs) ≡ filter_map gives (take i xs) ++ option_to_list (gives x)
given-one gives xs i x within is =
    ap (filter_map gives) (take_more xs i x within ∙ ap (λ y. take i xs ++ y ∷ []) (sym is))
    ∙ filter_map-append gives (take i xs) (x ∷ [])
    ∙ ap (λ ys. filter_map gives (take i xs) ++ ys) (cons-one (gives x))

-- more items where there is room for all
pub take-fits : {X : Type 0} (n : ℕ) (xs ys : List X) → length (take n xs) + length ys ≤ n →
    take n (xs ++ ys) ≡ take n xs ++ ys
take-fits zero xs [] fits = refl
take-fits zero xs (y ∷ ys) fits = absurd (omega (arith, fits))
take-fits (suc n) [] ys fits = take-whole (suc n) ys (omega (arith, fits))
take-fits (suc n) (x ∷ xs) ys fits = ap (λ zs. x ∷ zs) (take-fits n xs ys (omega (arith, fits)))
