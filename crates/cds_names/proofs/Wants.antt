-- The wanted pairs, component by component, and their order.
use Rattle.std.proofs.Common.{◌≡◌, ℕ, ◌+◌, ◌<◌, ◌≤◌, ◌↔◌, inl, inr, true, false, is_lt, Ordering, nat_cmp, List, length, get_or, map, ◌++◌, Some, Contains, slice_get, refl, sym, ap, ap₂, ◌∙◌, subst, arith}
use Rattle.std.specs.Int.{abs_diff}
use Rattle.std.specs.Ordering.{then_cmp, on}
use Rattle.std.specs.Cmp.{IsTotalOrder}
use Rattle.std.specs.List.Sorted.{IsSorted}
use Rattle.std.proofs.lemmas.Cmp.{nat_cmp_total, then_total, on_total}
use Rattle.std.proofs.lemmas.Bool.{cases_lt}
use Rattle.std.proofs.lemmas.Bool.Decides.{nat_tests}
use Rattle.std.proofs.Math.ListN.{get_or-map}
use Rattle.std.proofs.lemmas.List.{length-map}
use Rattle.std.proofs.lemmas.Option.{slice_get-get_or, slice_get_within}
use Rattle.std.proofs.lemmas.List.Elements.{Contains-append_left, Contains-append_right, Contains-append_cases, Contains-get_or}
use Rattle.std.proofs.lemmas.List.Sorted.{sorted_far, ranks_by}
use Rattle.cds_base.specs.declared.Window.{Window}
use Rattle.cds_names.specs.Naming.{Pair, IsWanted, IsBefore}
use Rattle.cds_names.specs.Wanting.{PeakTime, IsInWindow, IsInOrder, pair_of}

-- the order of pairs as `cmp` answers it
abbrev pub wanted_cmp : Pair → Pair → Ordering
wanted_cmp = then_cmp (on (λ p. p.distance) nat_cmp) (then_cmp (on (λ p. p.component) nat_cmp) (on (λ p. p.peak) nat_cmp))

wanted_cmp_total : IsTotalOrder wanted_cmp
wanted_cmp_total = then_total (on_total (λ p. p.distance) nat_cmp_total) (then_total (on_total (λ p. p.component) nat_cmp_total) (on_total (λ p. p.peak) nat_cmp_total))

before_is_lt : (p q : Pair) → IsBefore p q → is_lt (wanted_cmp p q) ≡ true
before_is_lt p q (inl lt) = grind (arith, nat_tests)
before_is_lt p q (inr (near, inl lt)) = grind (arith, nat_tests)
before_is_lt p q (inr (near, inr (same, lt))) = grind (arith, nat_tests)

-- sorted pairs are in order
pub IsInOrder-sorted : (pairs : List Pair) → IsSorted wanted_cmp pairs → IsInOrder pairs
IsInOrder-sorted pairs sorted i j d le below first =
    let not_lt : is_lt (wanted_cmp (get_or pairs j d) (get_or pairs i d)) ≡ false = sorted_far (λ p q. is_lt (wanted_cmp p q)) (ranks_by wanted_cmp_total (λ p. p)) pairs sorted i j d le below in
    let lt : is_lt (wanted_cmp (get_or pairs j d) (get_or pairs i d)) ≡ true = before_is_lt (get_or pairs j d) (get_or pairs i d) first in
    cc

some_inj : {A : Type 0} {x y : A} → Some x ≡ Some y → x ≡ y
some_inj e = cc

-- within a list no default is read
pub same_default : {A : Type 0} (xs : List A) (i : ℕ) (d e : A) → i < length xs → get_or xs i d ≡ get_or xs i e
same_default xs i d e within = some_inj (sym (slice_get-get_or xs i d within) ∙ slice_get-get_or xs i e within)

no_time : PeakTime
no_time = record { time = 0; peak = 0 }

-- what a mapped list has
from_map : (f : PeakTime → Pair) (xs : List PeakTime) (q : Pair) → Contains (map f xs) q → (x : PeakTime) × (Contains xs x × (q ≡ f x))
from_map f xs q found =
    let k : ℕ = found.0 in
    let below : k < length (map f xs) = found.1 in
    let within : k < length xs = omega (arith, length-map xs f) in
    (get_or xs k no_time, (Contains-get_or xs k no_time within, sym found.2 ∙ same_default (map f xs) k q (f no_time) below ∙ get_or-map f xs k no_time))

into_map : (f : PeakTime → Pair) (xs : List PeakTime) (x : PeakTime) → Contains xs x → Contains (map f xs) (f x)
into_map f xs x found =
    let within : found.0 < length xs = found.1 in
    (found.0, omega (arith, length-map xs f), get_or-map f xs found.0 x ∙ ap f found.2)

-- the wanted pairs of the first i components
abbrev pub WantedBelow : List Window → List ℕ → ℕ → Pair → Type 0
WantedBelow windows times i q = IsWanted windows times q × (q.component < i)

-- with those of one more component
pub wanted_more : (windows : List Window) (times : List ℕ) (peaks near : List PeakTime) (w : Window) (i : ℕ) (old new : List Pair) → slice_get windows i ≡ Some w → ((x : PeakTime) → Contains peaks x ↔ (slice_get times x.peak ≡ Some x.time)) → ((x : PeakTime) → Contains near x ↔ (Contains peaks x × IsInWindow w x)) → ((q : Pair) → Contains old q ↔ WantedBelow windows times i q) → new ≡ old ++ map (pair_of w i) near → (q : Pair) → Contains new q ↔ WantedBelow windows times (i + 1) q
wanted_more windows times peaks near w i old new window_is listed near_is known grown q = (
  λ found.
      elim (Contains-append_cases old (map (pair_of w i) near) q (subst (λ l. Contains l q) grown found)) [
        | inl before ↦ let is : WantedBelow windows times i q = (known q).0 before in (is.0, let lt : q.component < i = is.1 in omega arith)
        | inr added ↦
            let at : (x : PeakTime) × (Contains near x × (q ≡ pair_of w i x)) = from_map (pair_of w i) near q added in
            let inside : Contains peaks at.0 × IsInWindow w at.0 = (near_is at.0).0 at.1.0 in
            let own : WantedBelow windows times (i + 1) (pair_of w i at.0) =
            (record { window = w; time = at.0.time; component_is = window_is; peak_is = (listed at.0).0 inside.0; distance_is = refl; near = inside.1 }, omega arith) in
            subst (WantedBelow windows times (i + 1)) (sym at.1.1) own
      ],
  λ is.
      let lt : q.component < i + 1 = is.1 in
      elim (cases_lt q.component i) [
        | inl earlier ↦ subst (λ l. Contains l q) (sym grown) (Contains-append_left old (map (pair_of w i) near) q ((known q).1 (is.0, earlier)))
        | inr last ↦
            let here : q.component ≡ i = omega arith in
            let same : is.0.window ≡ w = some_inj (sym is.0.component_is ∙ ap (slice_get windows) here ∙ window_is) in
            let x : PeakTime = record { time = is.0.time; peak = q.peak } in
            let distance : q.distance ≡ abs_diff w.time_us is.0.time = is.0.distance_is ∙ ap (λ (v : Window). abs_diff v.time_us is.0.time) same in
            let near_enough : q.distance ≤ w.width_us = subst (λ (v : Window). q.distance ≤ v.width_us) same is.0.near in
            let inside : IsInWindow w x = subst (λ n. n ≤ w.width_us) distance near_enough in
            let added : Contains (map (pair_of w i) near) (pair_of w i x) = into_map (pair_of w i) near x ((near_is x).1 ((listed x).1 is.0.peak_is, inside)) in
            let pair_is : pair_of w i x ≡ q = ap₂ (λ d c. record { distance = d; component = c; peak = q.peak }) (sym distance) (sym here) in
            subst (λ l. Contains l q) (sym grown) (Contains-append_right old (map (pair_of w i) near) q (subst (Contains (map (pair_of w i) near)) pair_is added))
      ],
)

-- a wanted pair is one of all the components
pub below_all : (windows : List Window) (times : List ℕ) (q : Pair) (n : ℕ) → IsWanted windows times q → length windows ≤ n → q.component < n
below_all windows times q n wanted all =
    let within : q.component < length windows = slice_get_within windows q.component wanted.window wanted.component_is in
    omega arith
