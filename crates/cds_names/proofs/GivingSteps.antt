-- Going through the pairs in their order leaves the naming that none blocks.
use Rattle.std.proofs.Common.{◌≡◌, ◌≢◌, ℕ, zero, suc, ◌+◌, ◌<◌, ◌≤◌, ◌⊎◌, ◌↔◌, inl, inr, Bool, true, false, not, ◌&&◌, cond, is_none, List, length, get_or, set, replicate, take, drop, ◌++◌, Option, Some, None, Contains, refl, sym, ap, ap₂, ◌∙◌, subst, arith, get_or-set_same, get_or-set_other}
use Rattle.std.proofs.lemmas.Bool.{cases_lt, cases_eq, false≢true}
use Rattle.std.proofs.Math.Seq.{take-append_seam}
use Rattle.std.proofs.lemmas.List.Elements.{Contains-get_or}
use Rattle.std.proofs.lemmas.Option.{slice_get_within}
use Rattle.cds_base.specs.declared.Window.{Window}
use Rattle.cds_names.specs.declared.names.TheConstants.{NUMBER_LIMIT}
use Rattle.cds_names.specs.Naming.{Pair, IsWanted, IsBefore, peak_of, IsNumbered, HasPair, IsNaming, IsUnblocked}
use Rattle.cds_names.specs.Wanting.{IsInOrder}
use Rattle.cds_names.specs.Giving.{peaks_with, taken_with}
use Rattle.cds_names.proofs.Wants.{same_default}

abbrev pub no_pair : Pair
no_pair = record { distance = 0; component = 0; peak = 0 }

-- the pair at a place
abbrev pub pair_at : List Pair → ℕ → Pair
pair_at pairs k = get_or pairs k no_pair

-- whether the peak has a component
abbrev is_taken : List Bool → ℕ → Bool
is_taken taken p = get_or taken p false

-- what holds once the first n pairs were gone through
pub record Given (pairs : List Pair) (n : ℕ) (peaks : List (Option ℕ)) (taken : List Bool) : Type 0 where
  -- each given pair is one of the first n
  pub from_pairs : (c p : ℕ) → peak_of peaks c ≡ Some p → (m : ℕ) × ((m < n) × (((pair_at pairs m).component ≡ c) × ((pair_at pairs m).peak ≡ p)))
  -- a taken peak has a component, and a given peak is taken
  pub owned : (p : ℕ) → is_taken taken p ≡ true → (c : ℕ) × (peak_of peaks c ≡ Some p)
  pub marked : (c p : ℕ) → peak_of peaks c ≡ Some p → is_taken taken p ≡ true
  -- no peak is given twice
  pub no_peak_twice : (c e p : ℕ) → peak_of peaks c ≡ Some p → peak_of peaks e ≡ Some p → c ≡ e
  -- each of the first n pairs is given, or shares a side with a given pair that isn't behind it
  pub settled : (j : ℕ) → j < n → (m : ℕ) × ((m ≤ j) × (HasPair peaks (pair_at pairs m) × (((pair_at pairs m).component ≡ (pair_at pairs j).component) ⊎ ((pair_at pairs m).peak ≡ (pair_at pairs j).peak))))

none-some : {x : ℕ} → None ≡ Some x → ⊥
none-some e = cc

some_inj : {x y : ℕ} → Some x ≡ Some y → x ≡ y
some_inj e = cc

peak_of-none : (w c : ℕ) → peak_of (replicate w None) c ≡ None
peak_of-none zero c = refl
peak_of-none (suc w) zero = refl
peak_of-none (suc w) (suc c) = peak_of-none w c

is_taken-none : (a p : ℕ) → is_taken (replicate a false) p ≡ false
is_taken-none zero p = refl
is_taken-none (suc a) zero = refl
is_taken-none (suc a) (suc p) = is_taken-none a p

-- before the first pair nothing is given
pub Given-none : (pairs : List Pair) (w a : ℕ) → Given pairs 0 (replicate w None) (replicate a false)
Given-none pairs w a =
    record {
      from_pairs = λ c p is. absurd (none-some (sym (peak_of-none w c) ∙ is));
      owned = λ p is. absurd (false≢true (sym (is_taken-none a p) ∙ is));
      marked = λ c p is. absurd (none-some (sym (peak_of-none w c) ∙ is));
      no_peak_twice = λ c e p is also. absurd (none-some (sym (peak_of-none w c) ∙ is));
      settled = λ j below. absurd (omega arith);
    }

module _ (pairs : List Pair) (n : ℕ) (peaks : List (Option ℕ)) (taken : List Bool) (known : Given pairs n peaks taken) where
  abbrev q : Pair
  q = pair_at pairs n

  -- a pair that shares a side with a given one changes nothing
  kept : ((m : ℕ) × ((m ≤ n) × (HasPair peaks (pair_at pairs m) × (((pair_at pairs m).component ≡ (pair_at pairs n).component) ⊎ ((pair_at pairs m).peak ≡ (pair_at pairs n).peak))))) → Given pairs (n + 1) peaks taken
  kept other =
      record {
        from_pairs = λ c p is. let found = known.from_pairs c p is in (found.0, (let lt : found.0 < n = found.1.0 in omega arith, found.1.1));
        owned = known.owned;
        marked = known.marked;
        no_peak_twice = known.no_peak_twice;
        settled = λ j below.
            elim (cases_lt j n) [
              | inl before ↦ known.settled j before
              | inr last ↦ let here : n ≡ j = omega arith in subst (λ i. (m : ℕ) × ((m ≤ i) × (HasPair peaks (pair_at pairs m) × (((pair_at pairs m).component ≡ (pair_at pairs i).component) ⊎ ((pair_at pairs m).peak ≡ (pair_at pairs i).peak))))) here other
            ];
      }

  module _ (free : peak_of peaks q.component ≡ None) (open_peak : is_taken taken q.peak ≡ false) (c_in : q.component < length peaks) (p_in : q.peak < length taken) where
    abbrev with_pair : List (Option ℕ)
    with_pair = set peaks q.component (Some q.peak)

    abbrev with_mark : List Bool
    with_mark = set taken q.peak true

    new_peak : peak_of with_pair q.component ≡ Some q.peak
    new_peak = get_or-set_same peaks q.component (Some q.peak) None c_in

    old_peak : (c : ℕ) → c ≢ q.component → peak_of with_pair c ≡ peak_of peaks c
    old_peak c other = get_or-set_other peaks q.component c (Some q.peak) None other

    new_mark : is_taken with_mark q.peak ≡ true
    new_mark = get_or-set_same taken q.peak true false p_in

    old_mark : (p : ℕ) → p ≢ q.peak → is_taken with_mark p ≡ is_taken taken p
    old_mark p other = get_or-set_other taken q.peak p true false other

    -- a given pair is the new one or an old one of another component and another peak
    data Which (c p : ℕ) : Type 0 where
      newly : c ≡ q.component → p ≡ q.peak → Which c p
      before : c ≢ q.component → peak_of peaks c ≡ Some p → Which c p

    which : (c p : ℕ) → peak_of with_pair c ≡ Some p → Which c p
    which c p is =
        elim (cases_eq c q.component) [
          | inl here ↦ newly here (some_inj (sym is ∙ ap (peak_of with_pair) here ∙ new_peak))
          | inr other ↦ before other (sym (old_peak c other) ∙ is)
        ]

    -- what was given stays
    stays : (c p : ℕ) → peak_of peaks c ≡ Some p → peak_of with_pair c ≡ Some p
    stays c p is = old_peak c (λ here. none-some (sym free ∙ ap (peak_of peaks) (sym here) ∙ is)) ∙ is

    -- the new peak was no component's
    nobodys : (c : ℕ) → peak_of peaks c ≡ Some q.peak → ⊥
    nobodys c is = false≢true (sym open_peak ∙ known.marked c q.peak is)

    -- the pair is given where both its sides are free
    added : Given pairs (n + 1) with_pair with_mark
    added =
        record {
          from_pairs = λ c p is.
              elim (which c p is) [
                | newly here also ↦ (n, (omega arith, (sym here, sym also)))
                | before other was ↦ let found = known.from_pairs c p was in (found.0, (let lt : found.0 < n = found.1.0 in omega arith, found.1.1))
              ];
          owned = λ p is.
              elim (cases_eq p q.peak) [
                | inl here ↦ (q.component, new_peak ∙ ap Some (sym here))
                | inr other ↦ let owner = known.owned p (sym (old_mark p other) ∙ is) in (owner.0, stays owner.0 p owner.1)
              ];
          marked = λ c p is.
              elim (which c p is) [
                | newly here also ↦ ap (is_taken with_mark) also ∙ new_mark
                | before other was ↦ old_mark p (λ same. nobodys c (was ∙ ap Some same)) ∙ known.marked c p was
              ];
          no_peak_twice = λ c e p is also.
              elim (which c p is) [
                | newly c_here c_peak ↦
                    elim (which e p also) [
                      | newly e_here e_peak ↦ c_here ∙ sym e_here
                      | before other was ↦ absurd (nobodys e (was ∙ ap Some c_peak))
                    ]
                | before c_other c_was ↦
                    elim (which e p also) [
                      | newly e_here e_peak ↦ absurd (nobodys c (c_was ∙ ap Some e_peak))
                      | before e_other e_was ↦ known.no_peak_twice c e p c_was e_was
                    ]
              ];
          settled = λ j below.
              elim (cases_lt j n) [
                | inl earlier ↦
                    let was = known.settled j earlier in
                    (was.0, (was.1.0, (stays (pair_at pairs was.0).component (pair_at pairs was.0).peak was.1.1.0, was.1.1.1)))
                | inr last ↦
                    let here : n ≡ j = omega arith in
                    (n, (omega arith, (new_peak, inl (ap (λ i. (pair_at pairs i).component) here))))
              ];
        }

  -- one more pair
  pub Given-more : q.component < length peaks → q.peak < length taken → Given pairs (n + 1) (peaks_with peaks taken q) (taken_with peaks taken q)
  Given-more c_in p_in = by_sides (peak_of peaks q.component) (is_taken taken q.peak) refl refl
    where
      by_sides : (side : Option ℕ) (mark : Bool) → peak_of peaks q.component ≡ side → is_taken taken q.peak ≡ mark → Given pairs (n + 1) (cond (is_none side && not mark) (set peaks q.component (Some q.peak)) peaks) (cond (is_none side && not mark) (set taken q.peak true) taken)
      by_sides (Some p) mark side_is mark_is =
          let found = known.from_pairs q.component p side_is in
          kept (found.0, (let lt : found.0 < n = found.1.0 in omega arith, (ap (peak_of peaks) found.1.1.0 ∙ side_is ∙ ap Some (sym found.1.1.1), inl found.1.1.0)))
      by_sides None true side_is mark_is =
          let owner = known.owned q.peak mark_is in
          let found = known.from_pairs owner.0 q.peak owner.1 in
          kept (found.0, (let lt : found.0 < n = found.1.0 in omega arith, (ap (peak_of peaks) found.1.1.0 ∙ owner.1 ∙ ap Some (sym found.1.1.1), inr found.1.1.1)))
      by_sides None false side_is mark_is = added side_is mark_is c_in p_in

-- once all the wanted pairs were gone through in their order, none of them blocks the naming
pub IsUnblocked-given : (windows : List Window) (times : List ℕ) (pairs : List Pair) (peaks : List (Option ℕ)) (taken : List Bool) → ((p : Pair) → Contains pairs p ↔ IsWanted windows times p) → IsInOrder pairs → length peaks ≡ length windows → Given pairs (length pairs) peaks taken → IsUnblocked windows times peaks
IsUnblocked-given windows times pairs peaks taken listed ordered one_each given =
    let is_wanted : (m : ℕ) → m < length pairs → IsWanted windows times (pair_at pairs m) = λ m within. (listed (pair_at pairs m)).0 (Contains-get_or pairs m no_pair within) in
    record {
      is_naming = record {
        one_entry_each = one_each;
        wanted = λ c p is.
            let found = given.from_pairs c p is in
            let pair : Pair = pair_at pairs found.0 in
            let same : pair ≡ record { distance = pair.distance; component = c; peak = p } = ap₂ (λ x y. record { distance = pair.distance; component = x; peak = y }) found.1.1.0 found.1.1.1 in
            (pair.distance, subst (IsWanted windows times) same (is_wanted found.0 found.1.0));
        no_peak_twice = given.no_peak_twice;
      };
      unblocked = λ p blocks.
          let at = (listed p).1 blocks.wanted in
          let j : ℕ = at.0 in
          let within : j < length pairs = at.1 in
          let here : pair_at pairs j ≡ p = same_default pairs j no_pair p within ∙ at.2 in
          let found = given.settled j within in
          let m : ℕ = found.0 in
          let le : m ≤ j = found.1.0 in
          let other : Pair = pair_at pairs m in
          let other_wanted : IsWanted windows times other = is_wanted m (omega arith) in
          let later : IsBefore p other =
          elim found.1.1.1 [
            | inl component ↦ blocks.component_would other other_wanted found.1.1.0 (component ∙ ap (λ (r : Pair). r.component) here)
            | inr peak ↦ blocks.peak_would other other_wanted found.1.1.0 (peak ∙ ap (λ (r : Pair). r.peak) here)
          ] in
          ordered m j no_pair le within (subst (λ r. IsBefore r other) (sym here) later);
    }

-- the same where the pairs were counted up to n, and read from another list that is the same
pub IsUnblocked-counted : (windows : List Window) (times : List ℕ) (sorted pairs : List Pair) (n : ℕ) (peaks : List (Option ℕ)) (taken : List Bool) → pairs ≡ sorted → n ≡ length pairs → ((p : Pair) → Contains sorted p ↔ IsWanted windows times p) → IsInOrder sorted → length peaks ≡ length windows → Given pairs n peaks taken → IsUnblocked windows times peaks
IsUnblocked-counted windows times sorted pairs n peaks taken same all listed ordered one_each given =
    IsUnblocked-given windows times pairs peaks taken
    (subst (λ ps. (p : Pair) → Contains ps p ↔ IsWanted windows times p) (sym same) listed)
    (subst IsInOrder (sym same) ordered)
    one_each
    (subst (λ k. Given pairs k peaks taken) all given)

-- the numbers of components and peaks stay below 2^32 where there are fewer of each
pub IsNumbered-naming : (windows : List Window) (times : List ℕ) (naming : List (Option ℕ)) → length windows < NUMBER_LIMIT → length times < NUMBER_LIMIT → IsNaming windows times naming → IsNumbered naming
IsNumbered-naming windows times naming few_windows few_times is =
    record {
      few = omega (arith, is.one_entry_each);
      numbers = λ c p has.
          let wanted = is.wanted c p has in
          omega (arith, slice_get_within times p wanted.1.time wanted.1.peak_is);
    }

-- both sides of a listed pair are there
pub pair_within : (windows : List Window) (times : List ℕ) (pairs : List Pair) (n : ℕ) → ((p : Pair) → Contains pairs p ↔ IsWanted windows times p) → n < length pairs → ((pair_at pairs n).component < length windows) × ((pair_at pairs n).peak < length times)
pair_within windows times pairs n listed within =
    let wanted : IsWanted windows times (pair_at pairs n) = (listed (pair_at pairs n)).0 (Contains-get_or pairs n no_pair within) in
    (slice_get_within windows (pair_at pairs n).component wanted.window wanted.component_is, slice_get_within times (pair_at pairs n).peak wanted.time wanted.peak_is)

-- what a slice of a whole list leaves in the list
pub written_back : {A : Type 0} (n k : ℕ) (new items : List A) → length new ≡ n → take n (new ++ drop k items) ≡ new
written_back n k new items all = ap (λ m. take m (new ++ drop k items)) (sym all) ∙ take-append_seam new (drop k items)
