-- A list can be put into the order of a key.
use Rattle.std.proofs.Common.{◌≡◌, ℕ, zero, suc, ◌<◌, ◌≤◌, List, [], ◌∷◌, length, get_or, inl, inr, ap, ◌∙◌, arith}
use Rattle.std.specs.List.{insert}
use Rattle.std.specs.List.Sorted.{IsNonDecreasingBy, IsPermutation}
use Rattle.std.proofs.lemmas.Bool.{cases_lt}
use Rattle.std.proofs.lemmas.List.Sorted.{IsPermutation-refl, IsPermutation-cons, IsPermutation-trans, IsPermutation-insert, IsNonDecreasingBy-insert}
use Rattle.cds_names.proofs.Wants.{same_default}

-- a place among the first n elements: those before it are no higher than y, and those from it on no lower
record Parts {X : Type 0} (key : X → ℕ) (xs : List X) (y : X) (n : ℕ) : Type 0 where
  at : ℕ
  within : at ≤ n
  before : (k : ℕ) (d : X) → k < at → key (get_or xs k d) ≤ key y
  behind : (k : ℕ) (d : X) → at ≤ k → k < n → key y ≤ key (get_or xs k d)

parts : {X : Type 0} (key : X → ℕ) (xs : List X) (y : X) → IsNonDecreasingBy key xs → (n : ℕ) → n ≤ length xs → Parts key xs y n
parts key xs y rises zero le = record { at = 0; within = omega arith; before = λ k d below. absurd (omega arith); behind = λ k d from below. absurd (omega arith) }
parts key xs y rises (suc n) le =
    elim (cases_lt (key y) (key (get_or xs n y))) [
      | inl lower ↦
          let known = parts key xs y rises n (omega arith) in
          record {
            at = known.at;
            within = omega (arith, known.within);
            before = known.before;
            behind = λ k d from below.
                elim (cases_lt k n) [
                  | inl earlier ↦ known.behind k d from earlier
                  | inr last ↦
                      let here : k ≡ n = omega arith in
                      let same : get_or xs k d ≡ get_or xs n y = ap (λ i. get_or xs i d) here ∙ same_default xs n d y (omega arith) in
                      omega (arith, lower, ap key same)
                ];
          }
      | inr no_lower ↦ record {
        at = suc n;
        within = omega arith;
        before = λ k d below. omega (arith, rises k n d (omega arith) (omega arith), ap key (same_default xs n d y (omega arith)));
        behind = λ k d from below. absurd (omega arith);
      }
    ]

-- the list in the order of the key
pub sorted_by : {X : Type 0} (key : X → ℕ) (xs : List X) → (ys : List X) × (IsPermutation xs ys × IsNonDecreasingBy key ys)
sorted_by key [] = ([], (IsPermutation-refl [], λ i j d le below. absurd (omega arith)))
sorted_by key (x ∷ xs) =
    let rest = sorted_by key xs in
    let place = parts key rest.0 x rest.1.1 (length rest.0) (omega arith) in (
      insert rest.0 place.at x,
      (
        IsPermutation-trans (x ∷ xs) (x ∷ rest.0) (insert rest.0 place.at x) (IsPermutation-cons x xs rest.0 rest.1.0) (IsPermutation-insert rest.0 place.at x),
        IsNonDecreasingBy-insert key rest.0 place.at x rest.1.1 place.within place.before place.behind,
      ),
    )
