-- Lists whose elements, or whose pairs of elements, pass a test.
use Rattle.std.proofs.Common.{◌≡◌, suc, ◌<◌, Bool, true, false, List, [], ◌∷◌, length, map, Some, None, refl, arith, ap}
use Rattle.std.proofs.Common.{sym, ◌∙◌, subst, inl, inr}
use Rattle.std.specs.Prelude.{All}
use Rattle.std.specs.List.{find, flat_map, list_any, AllPairs}
use Rattle.std.proofs.lemmas.Bool.{cases_Bool, or_parts}
use Rattle.std.proofs.lemmas.List.{get_or-map, length-map}
use Rattle.std.proofs.lemmas.List.Elements.{All-nil, All-cons, All-head, All-tail, All-append}

-- what is found passes the test
pub find-passes : {X : Type 0} (test : X → Bool) (xs : List X) (x : X) → find test xs ≡ Some x → test x ≡ true
find-passes test [] x e = cc
find-passes test (y ∷ ys) x e = elim (cases_Bool (test y)) [
  | inl here ↦ (let same : Some y ≡ Some x = rw here at e in let is : y ≡ x = cc in ap test (sym is) ∙ here)
  | inr before ↦ find-passes test ys x (rw before at e)
]

-- what holds of each element holds of what is found
pub find-all : {X : Type 0} (P : X → Type 0) (test : X → Bool) (xs : List X) (x : X) → find test xs ≡ Some x →
    All P xs → P x
find-all P test [] x e all = absurd (cc)
find-all P test (y ∷ ys) x e all = elim (cases_Bool (test y)) [
  | inl here ↦ (let same : Some y ≡ Some x = rw here at e in let is : y ≡ x = cc in subst P is (All-head P y ys all))
  | inr before ↦ find-all P test ys x (rw before at e) (All-tail P y ys all)
]

-- where nothing is found no element passes
pub find-none : {X : Type 0} (test : X → Bool) (xs : List X) → find test xs ≡ None → All (λ x. test x ≡ false) xs
find-none test [] e = All-nil (λ x. test x ≡ false)
find-none test (y ∷ ys) e = elim (cases_Bool (test y)) [
  | inl here ↦ (let same : Some y ≡ None = rw here at e in absurd (cc))
  | inr before ↦ All-cons (λ x. test x ≡ false) y ys before (find-none test ys (rw before at e))
]

pub none-any : {X : Type 0} (test : X → Bool) (xs : List X) → list_any test xs ≡ false → All (λ x. test x ≡ false) xs
none-any test [] e = All-nil (λ x. test x ≡ false)
none-any test (y ∷ ys) e =
    let parts = or_parts (test y) (list_any test ys) e in
    All-cons (λ x. test x ≡ false) y ys parts.0 (none-any test ys parts.1)

pub flat_map-agree : {X Y : Type 0} (f h : X → List Y) (xs : List X) → All (λ x. f x ≡ h x) xs →
    flat_map f xs ≡ flat_map h xs
flat_map-agree f h [] all = refl
flat_map-agree f h (x ∷ xs) all =
    rw (All-head (λ x. f x ≡ h x) x xs all, flat_map-agree f h xs (All-tail (λ x. f x ≡ h x) x xs all)) refl

pub All-flat_map : {X Y : Type 0} (P : Y → Type 0) (f : X → List Y) (xs : List X) → All (λ x. All P (f x)) xs →
    All P (flat_map f xs)
All-flat_map P f [] all = All-nil P
All-flat_map P f (x ∷ xs) all =
    All-append P (f x) (flat_map f xs) (All-head (λ x. All P (f x)) x xs all)
    (All-flat_map P f xs (All-tail (λ x. All P (f x)) x xs all))

pub pairs-head : {X : Type 0} (R : X → X → Type 0) (x : X) (xs : List X) → AllPairs R (x ∷ xs) → All (R x) xs
pairs-head R x xs all = λ k d l. all 0 (suc k) d (omega arith) (omega arith)

pub pairs-tail : {X : Type 0} (R : X → X → Type 0) (x : X) (xs : List X) → AllPairs R (x ∷ xs) → AllPairs R xs
pairs-tail R x xs all = λ i j d l m. all (suc i) (suc j) d (omega arith) (omega arith)

pub pairs-map : {X Y : Type 0} (R : Y → Y → Type 0) (f : X → Y) (e : X) (xs : List X) →
    AllPairs (λ a b. R (f a) (f b)) xs → AllPairs R (map f xs)
pairs-map R f e xs all = λ i j d l m.
    let second : j < length xs = omega (arith, length-map xs f) in
    let first : i < length xs = omega arith in
    rw (get_or-map f xs i e d first, get_or-map f xs j e d second) (all i j e l second)
