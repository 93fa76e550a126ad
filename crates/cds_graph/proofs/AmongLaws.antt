-- What holds of each part of a list, and that each key of a list is among its keys.
use Rattle.std.proofs.Common.{◌≡◌, ◌∙◌, ℕ, ◌==◌, Bool, true, false, ◌||◌, cond, List, [], ◌∷◌, ◌++◌, map, Option}
use Rattle.std.proofs.Common.{Some, None}
use Rattle.std.proofs.Common.{find, refl, sym, ap}
use Rattle.std.specs.Prelude.{All, IfSome}
use Rattle.std.specs.List.{filter_map, flat_map, list_any, cons_option}
use Rattle.std.proofs.lemmas.List.Elements.{All-head, All-tail, All-cons, All-nil, All-map, All-weaker, All-append}
use Rattle.std.proofs.lemmas.List.Elements.{All-filter}
use Rattle.std.proofs.lemmas.List.Folds.{list_any-append}
use Rattle.cds_graph.specs.Keys.{once}

-- what holds of each image holds of each item
pub All-of_map : {X Y : Type 0} (P : Y → Type 0) (f : X → Y) (xs : List X) → All P (map f xs) → All (λ x. P (f x)) xs
All-of_map P f [] all = All-nil (λ x. P (f x))
All-of_map P f (x ∷ xs) all =
    All-cons (λ y. P (f y)) x xs (All-head P (f x) (map f xs) all)
    (All-of_map P f xs (All-tail P (f x) (map f xs) all))

-- two things that hold of each item
pub All-both : {X : Type 0} (P Q : X → Type 0) (xs : List X) → All P xs → All Q xs → All (λ x. P x × Q x) xs
All-both P Q xs one other = λ k d within. (one k d within, other k d within)

-- what holds of all parts
pub All-flat_map : {X Y : Type 0} (P : Y → Type 0) (f : X → List Y) (xs : List X) → All (λ x. All P (f x)) xs →
    All P (flat_map f xs)
All-flat_map P f [] all = All-nil P
All-flat_map P f (x ∷ xs) all =
    All-append P (f x) (flat_map f xs) (All-head (λ y. All P (f y)) x xs all)
    (All-flat_map P f xs (All-tail (λ y. All P (f y)) x xs all))

pub All-filter_map : {X Y : Type 0} (P : Y → Type 0) (h : X → Option Y) (xs : List X) →
    All (λ x. IfSome (h x) P) xs → All P (filter_map h xs)
All-filter_map P h [] all = All-nil P
All-filter_map {X} {Y} P h (x ∷ xs) all =
    by_case (h x) (All-head (λ y. IfSome (h y) P) x xs all)
    (All-filter_map P h xs (All-tail (λ y. IfSome (h y) P) x xs all))
  where
    by_case : (o : Option Y) → IfSome o P → All P (filter_map h xs) → All P (cons_option o (filter_map h xs))
    by_case None is later = later
    by_case (Some y) is later = All-cons P y (filter_map h xs) is later

-- what holds of each item holds of the one that is found
pub find-All : {X : Type 0} (P : X → Type 0) (test : X → Bool) (xs : List X) → All P xs → IfSome (find test xs) P
find-All P test [] all = tt
find-All {X} P test (x ∷ xs) all =
    by_test (test x) (All-head P x xs all) (find-All P test xs (All-tail P x xs all))
  where
    by_test : (b : Bool) → P x → IfSome (find test xs) P → IfSome (cond b (Some x) (find test xs)) P
    by_test true here later = here
    by_test false here later = later

-- what holds of each key holds of each that stands once
pub All-once : {K : Type 0} (P : K → Type 0) (same : K → K → Bool) (keys : List K) → All P keys →
    All P (once same keys)
All-once P same [] all = All-nil P
All-once P same (k ∷ keys) all =
    All-cons P k _ (All-head P k keys all)
    (All-filter _ P (once same keys) (All-once P same keys (All-tail P k keys all)))

-- either of two tests
true-left : (a b : Bool) → a ≡ true → (a || b) ≡ true
true-left true b is = refl
true-left false b is = cc

true-right : (a b : Bool) → b ≡ true → (a || b) ≡ true
true-right true b is = refl
true-right false b is = is

-- what the keys of a list are among
module _ {K : Type 0} (same : K → K → Bool) (self : (k : K) → same k k ≡ true) where
  -- each key is among its list
  pub each-among : (keys : List K) → All (λ k. list_any (same k) keys ≡ true) keys
  each-among [] = All-nil (λ k. list_any (same k) [] ≡ true)
  each-among (x ∷ xs) =
      All-cons (λ k. list_any (same k) (x ∷ xs) ≡ true) x xs
      (true-left (same x x) (list_any (same x) xs) (self x))
      (All-weaker (λ k. list_any (same k) xs ≡ true) (λ k. list_any (same k) (x ∷ xs) ≡ true)
      (λ k among. true-right (same k x) (list_any (same k) xs) among) xs (each-among xs))

  -- each key of a part is among those of all parts
  pub each-among_parts : {E : Type 0} (f : E → List K) (parts : List E) →
      All (λ e. All (λ k. list_any (same k) (flat_map f parts) ≡ true) (f e)) parts
  each-among_parts f [] = All-nil (λ e. All (λ k. list_any (same k) [] ≡ true) (f e))
  each-among_parts {E} f (p ∷ ps) =
      All-cons Part p ps
      (All-weaker (λ k. list_any (same k) (f p) ≡ true) Among
      (λ k among. list_any-append (same k) (f p) (flat_map f ps)
      ∙ true-left (list_any (same k) (f p)) (list_any (same k) (flat_map f ps)) among) (f p) (each-among (f p)))
      (All-weaker (λ e. All (λ k. list_any (same k) (flat_map f ps) ≡ true) (f e)) Part
      (λ e all. All-weaker (λ k. list_any (same k) (flat_map f ps) ≡ true) Among
      (λ k among. list_any-append (same k) (f p) (flat_map f ps)
      ∙ true-right (list_any (same k) (f p)) (list_any (same k) (flat_map f ps)) among) (f e) all)
      ps (each-among_parts f ps))
    where
      Among : K → Type 0
      Among k = list_any (same k) (flat_map f (p ∷ ps)) ≡ true

      Part : E → Type 0
      Part e = All Among (f e)

  -- each key that an item gives is among all those that are given
  pub each-among_given : {E : Type 0} (h : E → Option K) (items : List E) →
      All (λ e. IfSome (h e) (λ k. list_any (same k) (filter_map h items) ≡ true)) items
  each-among_given h [] = All-nil (λ e. IfSome (h e) (λ k. list_any (same k) [] ≡ true))
  each-among_given {E} h (x ∷ xs) = by_given (h x) refl (each-among_given h xs)
    where
      Given : List K → E → Type 0
      Given keys e = IfSome (h e) (λ k. list_any (same k) keys ≡ true)

      more : (y : K) (o : Option K) → IfSome o (λ k. list_any (same k) (filter_map h xs) ≡ true) →
          IfSome o (λ k. list_any (same k) (y ∷ filter_map h xs) ≡ true)
      more y None is = tt
      more y (Some k) is = true-right (same k y) (list_any (same k) (filter_map h xs)) is

      by_given : (o : Option K) → h x ≡ o → All (Given (filter_map h xs)) xs →
          All (Given (cons_option o (filter_map h xs))) (x ∷ xs)
      by_given None is later = All-cons (Given (filter_map h xs)) x xs (rw is tt) later
      by_given (Some y) is later =
          All-cons (Given (y ∷ filter_map h xs)) x xs
          (rw is (true-left (same y y) (list_any (same y) (filter_map h xs)) (self y)))
          (All-weaker (Given (filter_map h xs)) (Given (y ∷ filter_map h xs)) (λ e is. more y (h e) is) xs later)
