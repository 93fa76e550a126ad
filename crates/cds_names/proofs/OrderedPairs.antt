-- The wanted pairs of any windows and times can be listed in their order.
use Rattle.std.proofs.Common.{◌≡◌, ℕ, zero, suc, ◌+◌, ◌<◌, ◌≤◌, ◌↔◌, ◌⊎◌, inl, inr, List, [], ◌∷◌, ◌++◌, length, get_or, map, Contains, refl, sym, subst, arith}
use Rattle.std.specs.Int.{abs_diff}
use Rattle.std.specs.List.{range_with_len}
use Rattle.std.proofs.lemmas.Bool.{cases_lt}
use Rattle.std.proofs.lemmas.List.Elements.{Contains-get_or}
use Rattle.std.proofs.lemmas.List.Sorted.{Contains-permutation, IsPermutation-sym}
use Rattle.std.proofs.lemmas.Option.{slice_get-get_or}
use Rattle.cds_base.specs.declared.Window.{Window}
use Rattle.cds_names.specs.Naming.{Pair, IsWanted}
use Rattle.cds_names.specs.Wanting.{PeakTime, IsInWindow, IsInOrder, pair_of}
use Rattle.cds_names.proofs.Listing.{time_at, Contains-listed}
use Rattle.cds_names.proofs.OneNaming.{place, place_lt}
use Rattle.cds_names.proofs.Sorting.{sorted_by}
use Rattle.cds_names.proofs.Wants.{WantedBelow, wanted_more, below_all}

-- what a list has is its first element, or one of the rest
first_or_rest : {X : Type 0} (p : X) (xs : List X) (x : X) → Contains (p ∷ xs) x → (p ≡ x) ⊎ Contains xs x
first_or_rest p xs x (zero, below, is) = inl is
first_or_rest p xs x (suc k, below, is) = inr (k, omega arith, is)

in_rest : {X : Type 0} (p : X) (xs : List X) (x : X) → Contains xs x → Contains (p ∷ xs) x
in_rest p xs x (k, below, is) = (suc k, omega arith, is)

-- the times that lie in a window
near : (w : Window) (xs : List PeakTime) → (ys : List PeakTime) × ((x : PeakTime) → Contains ys x ↔ (Contains xs x × IsInWindow w x))
near w [] = ([], λ x. (λ (k, below, is). absurd (omega arith), λ known. known.0))
near w (p ∷ xs) =
    let rest = near w xs in
    elim (cases_lt w.width_us (abs_diff w.time_us p.time)) [
      | inl far ↦ (
        rest.0,
        λ x. (
          λ found. let known = (rest.1 x).0 found in (in_rest p xs x known.0, known.1),
          λ known.
              elim (first_or_rest p xs x known.0) [
                | inl here ↦ absurd (let inside : IsInWindow w p = subst (IsInWindow w) (sym here) known.1 in omega arith)
                | inr later ↦ (rest.1 x).1 (later, known.1)
              ],
        ),
      )
      | inr inside ↦ (
        p ∷ rest.0,
        λ x. (
          λ found.
              elim (first_or_rest p rest.0 x found) [
                | inl here ↦ ((zero, omega arith, here), subst (IsInWindow w) here inside)
                | inr later ↦ let known = (rest.1 x).0 later in (in_rest p xs x known.0, known.1)
              ],
          λ known.
              elim (first_or_rest p xs x known.0) [
                | inl here ↦ (zero, omega arith, here)
                | inr later ↦ in_rest p rest.0 x ((rest.1 x).1 (later, known.1))
              ],
        ),
      )
    ]

-- the wanted pairs of the first n components
wanted_below : (windows : List Window) (times : List ℕ) (n : ℕ) → n ≤ length windows → (pairs : List Pair) × ((q : Pair) → Contains pairs q ↔ WantedBelow windows times n q)
wanted_below windows times zero le = ([], λ q. (λ (k, below, is). absurd (omega arith), λ is. absurd (let none : q.component < 0 = is.1 in omega arith)))
wanted_below windows times (suc n) le =
    let known = wanted_below windows times n (omega arith) in
    let no_window : Window = record { time_us = 0; width_us = 0 } in
    let w : Window = get_or windows n no_window in
    let peaks : List PeakTime = map (time_at times) (range_with_len 0 (length times)) in
    let inside = near w peaks in
    let next : n + 1 ≡ suc n = omega arith in (
      known.0 ++ map (pair_of w n) inside.0,
      λ q. subst (λ i. Contains (known.0 ++ map (pair_of w n) inside.0) q ↔ WantedBelow windows times i q) next
          (wanted_more windows times peaks inside.0 w n known.0 (known.0 ++ map (pair_of w n) inside.0) (slice_get-get_or windows n no_window (omega arith)) (Contains-listed times) inside.1 known.1 refl q),
    )

-- the wanted pairs of all components, in their order
pub record Ordered (windows : List Window) (times : List ℕ) : Type 0 where
  pub pairs : List Pair
  pub listed : (q : Pair) → Contains pairs q ↔ IsWanted windows times q
  pub in_order : IsInOrder pairs

pub ordered_pairs : (windows : List Window) (times : List ℕ) → Ordered windows times
ordered_pairs windows times =
    let known = wanted_below windows times (length windows) (omega arith) in
    let sorted = sorted_by (place windows times) known.0 in
    let listed : (q : Pair) → Contains sorted.0 q ↔ IsWanted windows times q = λ q. (
      λ found. ((known.1 q).0 (Contains-permutation sorted.0 known.0 q (IsPermutation-sym known.0 sorted.0 sorted.1.0) found)).0,
      λ wanted. Contains-permutation known.0 sorted.0 q sorted.1.0 ((known.1 q).1 (wanted, below_all windows times q (length windows) wanted (omega arith))),
    ) in
    record {
      pairs = sorted.0;
      listed = listed;
      in_order = λ i j d le below first.
          let later : IsWanted windows times (get_or sorted.0 j d) = (listed (get_or sorted.0 j d)).0 (Contains-get_or sorted.0 j d below) in
          omega (arith, place_lt windows times (get_or sorted.0 j d) (get_or sorted.0 i d) later first, sorted.1.1 i j d le below);
    }
