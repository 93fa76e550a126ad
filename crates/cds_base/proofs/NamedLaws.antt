-- What stands under a name among entries whose names rise, and what becomes of them when an entry is placed.
use Rattle.std.proofs.Common.{◌≡◌, ◌∙◌, ℕ, zero, suc, ◌+◌, ◌-◌, ◌<◌, ◌≤◌, Bool, true, false, cond, inl, inr, List, [], ◌∷◌, ◌++◌, length, get_or, set, take, drop, map, Option, Some, None, option_map, Result, Ok, Err, IfOk, IfErr, refl, sym, ap, ap₂, subst, arith, is_eq, is_lt, is_gt, Less, Equal, Greater, Ordering, append-nil, append_assoc, take-append-drop, length-set, get_or-set_same}
use Rattle.std.specs.Prelude.{All, ◌⊎◌}
use Rattle.std.specs.List.{filter, find, insert, sum_by}
use Rattle.std.specs.List.Sorted.{IsStrictlySortedBy, IsSearchInRange, IsBinarySearchResult, IsSortedBy}
use Rattle.std.specs.Option.{option_map_or, option_or}
use Rattle.std.specs.Ordering.{ordering_reverse}
use Rattle.std.specs.Str.{bytes_eq}
use Rattle.std.proofs.lemmas.Bool.{cases_lt, cases_eq, false≢true}
use Rattle.std.proofs.lemmas.Cmp.{nat_list_cmp_total, tied_itself}
use Rattle.std.proofs.lemmas.List.{length-map, map-append, drop_more, take-set, drop-set, drop-set-lt, get_or-map, get_or-take, get_or-drop, length-take-le, length-drop}
use Rattle.std.proofs.lemmas.List.Edits.{length-insert}
use Rattle.std.proofs.lemmas.List.Elements.{All-head, All-tail, All-cons, All-nil, All-weaker, All-append, All-filter, filter-append, filter_passes, recursion_from_All}
use Rattle.std.proofs.lemmas.List.Folds.{find-append}
use Rattle.std.proofs.lemmas.List.Kept.{IsStrictlySortedBy-filter}
use Rattle.std.proofs.lemmas.List.Sorted.{searchable_from_sorted}
use Rattle.std.proofs.lemmas.List.Sums.{sum_by-insert, sum_by-set}
use Rattle.std.proofs.lemmas.Map.Keys.{sorted_tail}
use Rattle.std.proofs.lemmas.Map.Text.{is_eq-slice_cmp}
use Rattle.std.proofs.lemmas.Map.Views.{All-after_first}
use Rattle.std.proofs.lemmas.Slice.Eq.{bytes_eq-Decides}
use Rattle.cds_base.specs.Named.{byte_cmp, AreRising, named, placed, StandsAt, IsGapAt}

-- names that compare as equal are one
pub byte_cmp-equal : (a b : List ℕ) → byte_cmp a b ≡ Equal → a ≡ b
byte_cmp-equal a b tied = (bytes_eq-Decides a b).0 (sym (is_eq-slice_cmp a b) ∙ ap is_eq tied)

-- a name is itself
pub bytes_eq-self : (a : List ℕ) → bytes_eq a a ≡ true
bytes_eq-self a = (bytes_eq-Decides a a).1 refl

-- names that differ in order are two
differs-less : (a b : List ℕ) → byte_cmp a b ≡ Less → bytes_eq a b ≡ false
differs-less a b less = sym (is_eq-slice_cmp a b) ∙ ap is_eq less

differs-greater : (a b : List ℕ) → byte_cmp a b ≡ Greater → bytes_eq a b ≡ false
differs-greater a b greater = sym (is_eq-slice_cmp a b) ∙ ap is_eq greater

-- the order is turned round with its names
pub byte_cmp-back : (a b : List ℕ) → byte_cmp a b ≡ Less → byte_cmp b a ≡ Greater
byte_cmp-back a b less = nat_list_cmp_total.antisymm b a ∙ ap ordering_reverse less

module _ {X : Type 0} (p : X → Bool) where
  -- a filter that passes all
  filter-all : (xs : List X) → All (λ x. p x ≡ true) xs → filter p xs ≡ xs
  filter-all [] all = refl
  filter-all (x ∷ xs) all =
      let here : p x ≡ true = All-head (λ y. p y ≡ true) x xs all in
      rw here (ap (λ ys. x ∷ ys) (filter-all xs (All-tail (λ y. p y ≡ true) x xs all)))

  -- a filter that passes none
  filter-none : (xs : List X) → All (λ x. p x ≡ false) xs → filter p xs ≡ []
  filter-none [] none = refl
  filter-none (x ∷ xs) none =
      let here : p x ≡ false = All-head (λ y. p y ≡ false) x xs none in
      rw here (filter-none xs (All-tail (λ y. p y ≡ false) x xs none))

  -- a search among items of which none passes
  find-none : (xs : List X) → All (λ x. p x ≡ false) xs → find p xs ≡ None
  find-none [] none = refl
  find-none (x ∷ xs) none =
      let here : p x ≡ false = All-head (λ y. p y ≡ false) x xs none in
      rw here (find-none xs (All-tail (λ y. p y ≡ false) x xs none))

  -- a search among what a filter passes, where it passes all that is sought
  find-filter_all : (q : X → Bool) → ((x : X) → p x ≡ true → q x ≡ true) → (xs : List X) → find p (filter q xs) ≡ find p xs
  find-filter_all q passes [] = refl
  find-filter_all q passes (x ∷ xs) = by_test (p x) (q x) refl refl (find-filter_all q passes xs)
    where
      by_test : (b d : Bool) → p x ≡ b → q x ≡ d → find p (filter q xs) ≡ find p xs → find p (cond d (x ∷ filter q xs) (filter q xs)) ≡ cond b (Some x) (find p xs)
      by_test true true is kept rest = rw is refl
      by_test true false is kept rest = absurd (false≢true (sym kept ∙ passes x is))
      by_test false true is kept rest = rw is rest
      by_test false false is kept rest = rest

  -- and where it passes nothing that is sought
  find-filter_none : (q : X → Bool) → ((x : X) → p x ≡ true → q x ≡ false) → (xs : List X) → find p (filter q xs) ≡ None
  find-filter_none q fails [] = refl
  find-filter_none q fails (x ∷ xs) = by_test (p x) (q x) refl refl (find-filter_none q fails xs)
    where
      by_test : (b d : Bool) → p x ≡ b → q x ≡ d → find p (filter q xs) ≡ None → find p (cond d (x ∷ filter q xs) (filter q xs)) ≡ None
      by_test true true is kept rest = absurd (false≢true (sym (fails x is) ∙ kept))
      by_test false true is kept rest = rw is rest
      by_test true false is kept rest = rest
      by_test false false is kept rest = rest

  -- a filter that passes a front alone
  filter-front : (xs ys : List X) → All (λ x. p x ≡ true) xs → All (λ x. p x ≡ false) ys → filter p (xs ++ ys) ≡ xs
  filter-front xs ys all none = filter-append p xs ys ∙ ap₂ ◌++◌ (filter-all xs all) (filter-none ys none) ∙ append-nil xs

  -- a filter that passes a back alone
  filter-back : (xs ys : List X) → All (λ x. p x ≡ false) xs → All (λ x. p x ≡ true) ys → filter p (xs ++ ys) ≡ ys
  filter-back xs ys none all = filter-append p xs ys ∙ ap₂ ◌++◌ (filter-none xs none) (filter-all ys all)

-- one answer or none
option_or-none : {X : Type 0} (o : Option X) → option_or o None ≡ o
option_or-none None = refl
option_or-none (Some x) = refl

-- all of a mapped list is all of the list
All-unmap : {X Y : Type 0} (P : Y → Type 0) (f : X → Y) (xs : List X) → All P (map f xs) → All (λ x. P (f x)) xs
All-unmap P f xs all = λ k d below.
    let within : k < length (map f xs) = omega (arith, length-map xs f) in
    subst P (get_or-map f xs k d (f d) below) (all k (f d) within)

-- a filter by what a mapping shows
map-filter : {X Y : Type 0} (p : Y → Bool) (f : X → Y) (xs : List X) → map f (filter (λ x. p (f x)) xs) ≡ filter p (map f xs)
map-filter p f [] = refl
map-filter p f (x ∷ xs) = pick (p (f x)) (map-filter p f xs)
  where
    pick : (b : Bool) → map f (filter (λ y. p (f y)) xs) ≡ filter p (map f xs) → map f (cond b (x ∷ filter (λ y. p (f y)) xs) (filter (λ y. p (f y)) xs)) ≡ cond b (f x ∷ filter p (map f xs)) (filter p (map f xs))
    pick true rest = ap (λ ys. f x ∷ ys) rest
    pick false rest = rest

-- no names rise
pub AreRising-none : AreRising []
unfolding IsStrictlySortedBy
AreRising-none = tt

-- names that rise, with one in their midst that is above those before it and below those behind it
AreRising-middle : (front : List (List ℕ)) (name : List ℕ) (back : List (List ℕ)) → AreRising front → AreRising back → All (λ n. byte_cmp n name ≡ Less) front → All (λ n. byte_cmp name n ≡ Less) back → AreRising (front ++ name ∷ back)
unfolding IsStrictlySortedBy
AreRising-middle [] name back front_rises back_rises below above = (recursion_from_All (λ n. byte_cmp name n ≡ Less) back above, back_rises)
AreRising-middle (n ∷ front) name back front_rises back_rises below above =
    let first : byte_cmp n name ≡ Less = All-head (λ m. byte_cmp m name ≡ Less) n front below in
    let behind : All (λ m. byte_cmp n m ≡ Less) (front ++ name ∷ back) = All-append (λ m. byte_cmp n m ≡ Less) front (name ∷ back)
    (All-after_first byte_cmp n front front_rises)
    (All-cons (λ m. byte_cmp n m ≡ Less) name back first (All-weaker (λ m. byte_cmp name m ≡ Less) (λ m. byte_cmp n m ≡ Less) (λ m h. nat_list_cmp_total.trans n name m first h) back above)) in (
      recursion_from_All (λ m. byte_cmp n m ≡ Less) (front ++ name ∷ back) behind,
      AreRising-middle front name back (sorted_tail byte_cmp n front front_rises) back_rises (All-tail (λ m. byte_cmp m name ≡ Less) n front below) above,
    )

-- what passes a test of the order
is_lt-less : (o : Ordering) → is_lt o ≡ true → o ≡ Less
is_lt-less Less h = refl
is_lt-less Equal h = cc
is_lt-less Greater h = cc

is_gt-greater : (o : Ordering) → is_gt o ≡ true → o ≡ Greater
is_gt-greater Less h = cc
is_gt-greater Equal h = cc
is_gt-greater Greater h = refl

-- the order is turned back with its names
pub byte_cmp-forth : (a b : List ℕ) → byte_cmp a b ≡ Greater → byte_cmp b a ≡ Less
byte_cmp-forth a b greater = nat_list_cmp_total.antisymm b a ∙ ap ordering_reverse greater

-- a list with one item changed, by its parts
set_parts : {X : Type 0} (xs : List X) (i : ℕ) (y : X) → i < length xs → set xs i y ≡ take i xs ++ y ∷ drop (i + 1) xs
set_parts xs i y below = sym (take-append-drop i (set xs i y)) ∙ ap₂ ◌++◌ (take-set xs i y) (drop-set xs i y below)

-- a list by an item and the parts beside it
parts_at : {X : Type 0} (xs : List X) (i : ℕ) (d : X) → i < length xs → xs ≡ take i xs ++ get_or xs i d ∷ drop (i + 1) xs
parts_at xs i d below = sym (take-append-drop i xs) ∙ ap (λ ys. take i xs ++ ys) (drop_more xs i d below)

module _ {E : Type 0} (name_of : E → List ℕ) where
  -- entries with lesser and with greater names pass the one filter or the other
  passes_lt : (name : List ℕ) (es : List E) → All (λ e. byte_cmp (name_of e) name ≡ Less) es → All (λ e. is_lt (byte_cmp (name_of e) name) ≡ true) es
  passes_lt name es less = All-weaker (λ e. byte_cmp (name_of e) name ≡ Less) (λ e. is_lt (byte_cmp (name_of e) name) ≡ true) (λ e h. ap is_lt h) es less

  fails_gt : (name : List ℕ) (es : List E) → All (λ e. byte_cmp (name_of e) name ≡ Less) es → All (λ e. is_gt (byte_cmp (name_of e) name) ≡ false) es
  fails_gt name es less = All-weaker (λ e. byte_cmp (name_of e) name ≡ Less) (λ e. is_gt (byte_cmp (name_of e) name) ≡ false) (λ e h. ap is_gt h) es less

  passes_gt : (name : List ℕ) (es : List E) → All (λ e. byte_cmp (name_of e) name ≡ Greater) es → All (λ e. is_gt (byte_cmp (name_of e) name) ≡ true) es
  passes_gt name es greater = All-weaker (λ e. byte_cmp (name_of e) name ≡ Greater) (λ e. is_gt (byte_cmp (name_of e) name) ≡ true) (λ e h. ap is_gt h) es greater

  fails_lt : (name : List ℕ) (es : List E) → All (λ e. byte_cmp (name_of e) name ≡ Greater) es → All (λ e. is_lt (byte_cmp (name_of e) name) ≡ false) es
  fails_lt name es greater = All-weaker (λ e. byte_cmp (name_of e) name ≡ Greater) (λ e. is_lt (byte_cmp (name_of e) name) ≡ false) (λ e h. ap is_lt h) es greater

  -- neither has the name
  other_less : (name : List ℕ) (es : List E) → All (λ e. byte_cmp (name_of e) name ≡ Less) es → All (λ e. bytes_eq (name_of e) name ≡ false) es
  other_less name es less = All-weaker (λ e. byte_cmp (name_of e) name ≡ Less) (λ e. bytes_eq (name_of e) name ≡ false) (λ e h. differs-less (name_of e) name h) es less

  other_greater : (name : List ℕ) (es : List E) → All (λ e. byte_cmp (name_of e) name ≡ Greater) es → All (λ e. bytes_eq (name_of e) name ≡ false) es
  other_greater name es greater = All-weaker (λ e. byte_cmp (name_of e) name ≡ Greater) (λ e. bytes_eq (name_of e) name ≡ false) (λ e h. differs-greater (name_of e) name h) es greater

  -- an entry in its gap
  pub placed-gap : (entries : List E) (entry : E) (at : ℕ) → IsGapAt name_of entries (name_of entry) at → placed name_of entries entry ≡ insert entries at entry
  placed-gap entries entry at gap =
      let name = name_of entry in
      let front = take at entries in
      let back = drop at entries in
      let lt = λ (e : E). is_lt (byte_cmp (name_of e) name) in
      let gt = λ (e : E). is_gt (byte_cmp (name_of e) name) in
      let parts : entries ≡ front ++ back = sym (take-append-drop at entries) in
      let lesser : filter lt entries ≡ front = ap (filter lt) parts ∙ filter-front lt front back (passes_lt name front gap.lesser) (fails_lt name back gap.greater) in
      let greater : filter gt entries ≡ back = ap (filter gt) parts ∙ filter-back gt front back (fails_gt name front gap.lesser) (passes_gt name back gap.greater) in
      ap₂ (λ xs ys. xs ++ entry ∷ ys) lesser greater

  -- an entry instead of the one of its name
  pub placed-stands : (entries : List E) (entry : E) (at : ℕ) → StandsAt name_of entries (name_of entry) at → placed name_of entries entry ≡ set entries at entry
  placed-stands entries entry at stands =
      let name = name_of entry in
      let front = take at entries in
      let old = get_or entries at entry in
      let back = drop (at + 1) entries in
      let lt = λ (e : E). is_lt (byte_cmp (name_of e) name) in
      let gt = λ (e : E). is_gt (byte_cmp (name_of e) name) in
      let tied : byte_cmp (name_of old) name ≡ Equal = ap (λ n. byte_cmp n name) (stands.here entry) ∙ tied_itself nat_list_cmp_total name in
      let parts : entries ≡ front ++ old ∷ back = parts_at entries at entry stands.within in
      let parts' : entries ≡ (front ++ old ∷ []) ++ back = parts ∙ sym (append_assoc front (old ∷ []) back) in
      let lesser : filter lt entries ≡ front = ap (filter lt) parts ∙ filter-front lt front (old ∷ back)
      (passes_lt name front stands.lesser)
      (All-cons (λ e. lt e ≡ false) old back (ap is_lt tied) (fails_lt name back stands.greater)) in
      let greater : filter gt entries ≡ back = ap (filter gt) parts' ∙ filter-back gt (front ++ old ∷ []) back
      (All-append (λ e. gt e ≡ false) front (old ∷ []) (fails_gt name front stands.lesser) (All-cons (λ e. gt e ≡ false) old [] (ap is_gt tied) (All-nil (λ e. gt e ≡ false))))
      (passes_gt name back stands.greater) in
      ap₂ (λ xs ys. xs ++ entry ∷ ys) lesser greater ∙ sym (set_parts entries at entry stands.within)

  -- another entry of the same name stands where the one before it stood
  pub StandsAt-set : (entries : List E) (name : List ℕ) (at : ℕ) (e : E) → name_of e ≡ name → StandsAt name_of entries name at → StandsAt name_of (set entries at e) name at
  StandsAt-set entries name at e same stands = record {
    within = omega (arith, length-set entries at e, stands.within);
    here = λ d. subst (λ x. name_of x ≡ name) (sym (get_or-set_same entries at e d stands.within)) same;
    lesser = subst (All (λ x. byte_cmp (name_of x) name ≡ Less)) (sym (take-set entries at e)) stands.lesser;
    greater = subst (All (λ x. byte_cmp (name_of x) name ≡ Greater)) (sym (drop-set-lt (at + 1) entries at e (omega arith))) stands.greater;
  }

  -- the entry that stands at the place of a name is that of the name
  pub named-stands : (entries : List E) (name : List ℕ) (at : ℕ) (d : E) → StandsAt name_of entries name at → named name_of entries name ≡ Some (get_or entries at d)
  named-stands entries name at d stands =
      let test = λ (e : E). bytes_eq (name_of e) name in
      let front = take at entries in
      let old = get_or entries at d in
      let back = drop (at + 1) entries in
      let here : test old ≡ true = ap (λ n. bytes_eq n name) (stands.here d) ∙ bytes_eq-self name in
      let found : find test (old ∷ back) ≡ Some old = rw here refl in
      ap (find test) (parts_at entries at d stands.within) ∙ find-append test front (old ∷ back)
      ∙ ap₂ option_or (find-none test front (other_less name front stands.lesser)) found

  -- a name that has a gap isn't there
  pub named-gap : (entries : List E) (name : List ℕ) (at : ℕ) → IsGapAt name_of entries name at → named name_of entries name ≡ None
  named-gap entries name at gap =
      let test = λ (e : E). bytes_eq (name_of e) name in
      find-none test entries (subst (All (λ e. test e ≡ false)) (take-append-drop at entries)
      (All-append (λ e. test e ≡ false) (take at entries) (drop at entries) (other_less name _ gap.lesser) (other_greater name _ gap.greater)))

  -- an entry that was placed is that of its name
  pub named-placed : (entries : List E) (entry : E) → named name_of (placed name_of entries entry) (name_of entry) ≡ Some entry
  named-placed entries entry =
      let name = name_of entry in
      let test = λ (e : E). bytes_eq (name_of e) name in
      let lt = λ (e : E). is_lt (byte_cmp (name_of e) name) in
      let front = filter lt entries in
      let back = filter (λ e. is_gt (byte_cmp (name_of e) name)) entries in
      let found : find test (entry ∷ back) ≡ Some entry = rw (bytes_eq-self name) refl in
      let none : All (λ e. test e ≡ false) front = other_less name front (All-weaker (λ e. lt e ≡ true) (λ e. byte_cmp (name_of e) name ≡ Less) (λ e h. is_lt-less (byte_cmp (name_of e) name) h) front (filter_passes lt entries)) in
      find-append test front (entry ∷ back) ∙ ap₂ option_or (find-none test front none) found

  -- what is kept of each entry is kept of the one of a name
  pub named-All : (P : E → Type 0) (entries : List E) (name : List ℕ) (found : E) → All P entries → named name_of entries name ≡ Some found → P found
  named-All P [] name found all is = cc
  named-All P (e ∷ es) name found all is = by_test (bytes_eq (name_of e) name) refl (named-All P es name found (All-tail P e es all))
    where
      by_test : (b : Bool) → bytes_eq (name_of e) name ≡ b → (named name_of es name ≡ Some found → P found) → P found
      by_test true here rest =
          let same : Some e ≡ Some found = rw here at is in
          let one : e ≡ found = cc in
          subst P one (All-head P e es all)
      by_test false other rest = rest (rw other at is)

  -- an entry of another name that was placed leaves what stands under a name
  pub named-placed_other : (entries : List E) (entry : E) (name : List ℕ) → bytes_eq (name_of entry) name ≡ false → named name_of (placed name_of entries entry) name ≡ named name_of entries name
  named-placed_other entries entry name other = by_order (byte_cmp name (name_of entry)) refl
    where
      order_of : (o : Ordering) → byte_cmp name (name_of entry) ≡ o → (e : E) → bytes_eq (name_of e) name ≡ true → byte_cmp (name_of e) (name_of entry) ≡ o
      order_of o is e same = ap (λ n. byte_cmp n (name_of entry)) ((bytes_eq-Decides (name_of e) name).0 same) ∙ is

      passed : find (λ e. bytes_eq (name_of e) name) (entry ∷ filter (λ e. is_gt (byte_cmp (name_of e) (name_of entry))) entries) ≡ find (λ e. bytes_eq (name_of e) name) (filter (λ e. is_gt (byte_cmp (name_of e) (name_of entry))) entries)
      passed = rw other refl

      joined : find (λ e. bytes_eq (name_of e) name) (placed name_of entries entry) ≡ option_or (find (λ e. bytes_eq (name_of e) name) (filter (λ e. is_lt (byte_cmp (name_of e) (name_of entry))) entries)) (find (λ e. bytes_eq (name_of e) name) (filter (λ e. is_gt (byte_cmp (name_of e) (name_of entry))) entries))
      joined = find-append (λ e. bytes_eq (name_of e) name) (filter (λ e. is_lt (byte_cmp (name_of e) (name_of entry))) entries) (entry ∷ filter (λ e. is_gt (byte_cmp (name_of e) (name_of entry))) entries) ∙ ap (option_or (find (λ e. bytes_eq (name_of e) name) (filter (λ e. is_lt (byte_cmp (name_of e) (name_of entry))) entries))) passed

      by_order : (o : Ordering) → byte_cmp name (name_of entry) ≡ o → find (λ e. bytes_eq (name_of e) name) (placed name_of entries entry) ≡ find (λ e. bytes_eq (name_of e) name) entries
      by_order Less is = joined ∙ ap₂ option_or
          (find-filter_all (λ e. bytes_eq (name_of e) name) (λ e. is_lt (byte_cmp (name_of e) (name_of entry))) (λ e same. ap is_lt (order_of Less is e same)) entries)
          (find-filter_none (λ e. bytes_eq (name_of e) name) (λ e. is_gt (byte_cmp (name_of e) (name_of entry))) (λ e same. ap is_gt (order_of Less is e same)) entries) ∙ option_or-none (find (λ e. bytes_eq (name_of e) name) entries)
      by_order Greater is = joined ∙ ap₂ option_or
          (find-filter_none (λ e. bytes_eq (name_of e) name) (λ e. is_lt (byte_cmp (name_of e) (name_of entry))) (λ e same. ap is_lt (order_of Greater is e same)) entries)
          (find-filter_all (λ e. bytes_eq (name_of e) name) (λ e. is_gt (byte_cmp (name_of e) (name_of entry))) (λ e same. ap is_gt (order_of Greater is e same)) entries)
      by_order Equal is =
          let same : bytes_eq (name_of entry) name ≡ true = (bytes_eq-Decides (name_of entry) name).1 (sym (byte_cmp-equal name (name_of entry) is)) in
          absurd (false≢true (sym other ∙ same))

  -- what is kept of each entry is kept when one is placed
  pub All-placed : (P : E → Type 0) (entries : List E) (entry : E) → All P entries → P entry → All P (placed name_of entries entry)
  All-placed P entries entry all here =
      let name = name_of entry in
      let lt = λ (e : E). is_lt (byte_cmp (name_of e) name) in
      let gt = λ (e : E). is_gt (byte_cmp (name_of e) name) in
      All-append P (filter lt entries) (entry ∷ filter gt entries) (All-filter lt P entries all) (All-cons P entry (filter gt entries) here (All-filter gt P entries all))

  -- names still rise when an entry is placed
  pub AreRising-placed : (entries : List E) (entry : E) → AreRising (map name_of entries) → AreRising (map name_of (placed name_of entries entry))
  AreRising-placed entries entry rising =
      let name = name_of entry in
      let names = map name_of entries in
      let lt = λ (n : List ℕ). is_lt (byte_cmp n name) in
      let gt = λ (n : List ℕ). is_gt (byte_cmp n name) in
      let front = filter (λ e. lt (name_of e)) entries in
      let back = filter (λ e. gt (name_of e)) entries in
      let shape : map name_of (front ++ entry ∷ back) ≡ filter lt names ++ name ∷ filter gt names =
      map-append name_of front (entry ∷ back) ∙ ap₂ (λ xs ys. xs ++ name ∷ ys) (map-filter lt name_of entries) (map-filter gt name_of entries) in
      let middle : AreRising (filter lt names ++ name ∷ filter gt names) = AreRising-middle (filter lt names) name (filter gt names)
      (IsStrictlySortedBy-filter byte_cmp lt names rising)
      (IsStrictlySortedBy-filter byte_cmp gt names rising)
      (All-weaker (λ n. lt n ≡ true) (λ n. byte_cmp n name ≡ Less) (λ n h. is_lt-less (byte_cmp n name) h) (filter lt names) (filter_passes lt names))
      (All-weaker (λ n. gt n ≡ true) (λ n. byte_cmp name n ≡ Less) (λ n h. byte_cmp-forth n name (is_gt-greater (byte_cmp n name) h)) (filter gt names) (filter_passes gt names)) in
      subst AreRising (sym shape) middle

  -- a place behind an entry of a lesser name
  StandsAt-behind : (e : E) (es : List E) (name : List ℕ) (at : ℕ) → byte_cmp (name_of e) name ≡ Less → StandsAt name_of es name at → StandsAt name_of (e ∷ es) name (suc at)
  StandsAt-behind e es name at less stands = record {
    within = omega (arith, stands.within);
    here = stands.here;
    lesser = All-cons (λ x. byte_cmp (name_of x) name ≡ Less) e (take at es) less stands.lesser;
    greater = let same : suc (at + 1) ≡ suc at + 1 = omega arith in subst (λ n. All (λ x. byte_cmp (name_of x) name ≡ Greater) (drop n (e ∷ es))) same stands.greater;
  }

  IsGapAt-behind : (e : E) (es : List E) (name : List ℕ) (at : ℕ) → byte_cmp (name_of e) name ≡ Less → IsGapAt name_of es name at → IsGapAt name_of (e ∷ es) name (suc at)
  IsGapAt-behind e es name at less gap = record {
    within = omega (arith, gap.within);
    lesser = All-cons (λ x. byte_cmp (name_of x) name ≡ Less) e (take at es) less gap.lesser;
    greater = gap.greater;
  }

  -- entries behind one whose name isn't lesser have greater names
  all_greater : (e : E) (es : List E) (name : List ℕ) → AreRising (map name_of (e ∷ es)) → ((n : List ℕ) → byte_cmp (name_of e) n ≡ Less → byte_cmp n name ≡ Greater) → All (λ x. byte_cmp (name_of x) name ≡ Greater) es
  all_greater e es name rising later = All-weaker (λ x. byte_cmp (name_of e) (name_of x) ≡ Less) (λ x. byte_cmp (name_of x) name ≡ Greater) (λ x h. later (name_of x) h) es
      (All-unmap (λ n. byte_cmp (name_of e) n ≡ Less) name_of es (All-after_first byte_cmp (name_of e) (map name_of es) rising))

  -- each name has its place
  pub place : (entries : List E) (name : List ℕ) → AreRising (map name_of entries) → (at : ℕ) × (StandsAt name_of entries name at ⊎ IsGapAt name_of entries name at)
  place [] name rising = (0, inr (record { within = omega arith; lesser = All-nil (λ x. byte_cmp (name_of x) name ≡ Less); greater = All-nil (λ x. byte_cmp (name_of x) name ≡ Greater) }))
  place (e ∷ es) name rising = by_order (byte_cmp (name_of e) name) refl (place es name (sorted_tail byte_cmp (name_of e) (map name_of es) rising))
    where
      behind : byte_cmp (name_of e) name ≡ Less → (at : ℕ) × (StandsAt name_of es name at ⊎ IsGapAt name_of es name at) → (at : ℕ) × (StandsAt name_of (e ∷ es) name at ⊎ IsGapAt name_of (e ∷ es) name at)
      behind less (at, inl stands) = (suc at, inl (StandsAt-behind e es name at less stands))
      behind less (at, inr gap) = (suc at, inr (IsGapAt-behind e es name at less gap))

      by_order : (o : Ordering) → byte_cmp (name_of e) name ≡ o → (at : ℕ) × (StandsAt name_of es name at ⊎ IsGapAt name_of es name at) → (at : ℕ) × (StandsAt name_of (e ∷ es) name at ⊎ IsGapAt name_of (e ∷ es) name at)
      by_order Less less rest = behind less rest
      by_order Equal tied rest =
          let same : name_of e ≡ name = byte_cmp-equal (name_of e) name tied in (
            0,
            inl (record {
              within = omega arith;
              here = λ d. same;
              lesser = All-nil (λ x. byte_cmp (name_of x) name ≡ Less);
              greater = all_greater e es name rising (λ n h. byte_cmp-back name n (subst (λ m. byte_cmp m n ≡ Less) same h));
            }),
          )
      by_order Greater greater rest = (
        0,
        inr (record {
          within = omega arith;
          lesser = All-nil (λ x. byte_cmp (name_of x) name ≡ Less);
          greater = All-cons (λ x. byte_cmp (name_of x) name ≡ Greater) e es greater
              (all_greater e es name rising (λ n h. byte_cmp-back name n (nat_list_cmp_total.trans name (name_of e) n (byte_cmp-forth (name_of e) name greater) h)));
        }),
      )

  -- how a sum over the entries changes when one is placed
  pub sum_by-placed : (f : E → ℕ) (entries : List E) (entry : E) → AreRising (map name_of entries) → sum_by f (placed name_of entries entry) + option_map_or f (named name_of entries (name_of entry)) 0 ≡ sum_by f entries + f entry
  sum_by-placed f entries entry rising = by_place (place entries (name_of entry) rising)
    where
      by_place : (at : ℕ) × (StandsAt name_of entries (name_of entry) at ⊎ IsGapAt name_of entries (name_of entry) at) → sum_by f (placed name_of entries entry) + option_map_or f (named name_of entries (name_of entry)) 0 ≡ sum_by f entries + f entry
      by_place (at, inl stands) = rw (placed-stands entries entry at stands, named-stands entries (name_of entry) at entry stands) (sum_by-set f entries at entry entry stands.within)
      by_place (at, inr gap) = rw (placed-gap entries entry at gap, named-gap entries (name_of entry) at gap) (omega (arith, sum_by-insert f entries at entry))

  -- how many entries there are when one is placed
  pub length-placed : (entries : List E) (entry : E) → AreRising (map name_of entries) → length (placed name_of entries entry) + option_map_or (λ _. 1) (named name_of entries (name_of entry)) 0 ≡ length entries + 1
  length-placed entries entry rising = by_place (place entries (name_of entry) rising)
    where
      by_place : (at : ℕ) × (StandsAt name_of entries (name_of entry) at ⊎ IsGapAt name_of entries (name_of entry) at) → length (placed name_of entries entry) + option_map_or (λ _. 1) (named name_of entries (name_of entry)) 0 ≡ length entries + 1
      by_place (at, inl stands) = rw (placed-stands entries entry at stands, named-stands entries (name_of entry) at entry stands) (simp length-set (omega arith))
      by_place (at, inr gap) = rw (placed-gap entries entry at gap, named-gap entries (name_of entry) at gap) (omega (arith, length-insert entries at entry gap.within))

  -- names that rise are sorted, as a binary search asks
  sorted_names : (entries : List E) → AreRising (map name_of entries) → IsSortedBy (λ a b. is_lt (byte_cmp (name_of a) (name_of b))) entries
  sorted_names [] rising k d low below = absurd (omega arith)
  sorted_names (e ∷ es) rising zero d low below =
      let first : byte_cmp (name_of e) (name_of (get_or es 0 d)) ≡ Less = All-unmap (λ n. byte_cmp (name_of e) n ≡ Less) name_of es (All-after_first byte_cmp (name_of e) (map name_of es) rising) 0 d (omega arith) in
      ap is_lt (byte_cmp-back (name_of e) (name_of (get_or es 0 d)) first)
  sorted_names (e ∷ es) rising (suc k) d low below =
      let rest : is_lt (byte_cmp (name_of (get_or es (k + 1) d)) (name_of (get_or es k d))) ≡ false = sorted_names es (sorted_tail byte_cmp (name_of e) (map name_of es) rising) k d (omega arith) (omega arith) in
      let same : suc (k + 1) ≡ suc k + 1 = omega arith in
      subst (λ n. is_lt (byte_cmp (name_of (get_or (e ∷ es) n d)) (name_of (get_or es k d))) ≡ false) same rest

  -- names before a place and from a place on
  less_before : (entries : List E) (name : List ℕ) (at k : ℕ) (d : E) → at ≤ length entries → All (λ e. byte_cmp (name_of e) name ≡ Less) (take at entries) → k < at → byte_cmp (name_of (get_or entries k d)) name ≡ Less
  less_before entries name at k d within less before =
      let below : k < length (take at entries) = rw (length-take-le at entries within) before in
      subst (λ e. byte_cmp (name_of e) name ≡ Less) (get_or-take at entries k d before) (less k d below)

  greater_from : (entries : List E) (name : List ℕ) (at k : ℕ) (d : E) → All (λ e. byte_cmp (name_of e) name ≡ Greater) (drop at entries) → at ≤ k → k < length entries → byte_cmp (name_of (get_or entries k d)) name ≡ Greater
  greater_from entries name at k d greater from below =
      let within : k - at < length (drop at entries) = omega (arith, length-drop at entries) in
      let same : at + (k - at) ≡ k = omega arith in
      subst (λ n. byte_cmp (name_of (get_or entries n d)) name ≡ Greater) same
      (subst (λ e. byte_cmp (name_of e) name ≡ Greater) (get_or-drop at entries (k - at) d) (greater (k - at) d within))

  -- the entry of a name stands at no place but its own
  StandsAt-found : (entries : List E) (name : List ℕ) (k : ℕ) (d : E) → AreRising (map name_of entries) → k < length entries → byte_cmp (name_of (get_or entries k d)) name ≡ Equal → StandsAt name_of entries name k
  StandsAt-found entries name k d rising below tied = by_place (place entries name rising)
    where
      by_place : (at : ℕ) × (StandsAt name_of entries name at ⊎ IsGapAt name_of entries name at) → StandsAt name_of entries name k
      by_place (at, inl stands) = elim (cases_lt k at) [
        | inl before ↦ let less = less_before entries name at k d (omega (arith, stands.within)) stands.lesser before in cc
        | inr from ↦ elim (cases_eq at k) [
          | inl same ↦ subst (StandsAt name_of entries name) same stands
          | inr other ↦ let greater = greater_from entries name (at + 1) k d stands.greater (omega arith) below in cc
        ]
      ]
      by_place (at, inr gap) = elim (cases_lt k at) [
        | inl before ↦ let less = less_before entries name at k d gap.within gap.lesser before in cc
        | inr from ↦ let greater = greater_from entries name at k d gap.greater from below in cc
      ]

  -- what a binary search by name finds
  pub searched : (entries : List E) (name : List ℕ) → AreRising (map name_of entries) → (r : Result ℕ ℕ) → IsSearchInRange r (length entries) → IsBinarySearchResult (λ e. byte_cmp (name_of e) name) entries r → IfOk r (StandsAt name_of entries name) × IfErr r (IsGapAt name_of entries name)
  searched [] name rising (Ok at) within equal = absurd (omega arith)
  searched (e ∷ es) name rising (Ok at) within equal = (StandsAt-found (e ∷ es) name at e rising within (equal e), tt)
  searched entries name rising (Err at) within parted =
      let parts = parted (searchable_from_sorted nat_list_cmp_total name_of entries name (sorted_names entries rising)) in (
        tt,
        record {
          within = within;
          lesser = λ k d below.
              let front : length (take at entries) ≡ at = length-take-le at entries within in
              let before : k < at = omega arith in
              subst (λ x. byte_cmp (name_of x) name ≡ Less) (sym (get_or-take at entries k d before)) (parts.0 k d (omega arith) before);
          greater = λ k d below.
              let behind : at + k < length entries = omega (arith, length-drop at entries) in
              subst (λ x. byte_cmp (name_of x) name ≡ Greater) (sym (get_or-drop at entries k d)) (parts.1 (at + k) d (omega arith) behind);
        },
      )

-- entries are placed among others as what is shown of them is
module _ {H E : Type 0} (shown : H → E) (name_of : E → List ℕ) where
  pub map-placed : (hs : List H) (h : H) → map shown (placed (λ x. name_of (shown x)) hs h) ≡ placed name_of (map shown hs) (shown h)
  map-placed hs h =
      let lesser = λ (e : E). is_lt (byte_cmp (name_of e) (name_of (shown h))) in
      let greater = λ (e : E). is_gt (byte_cmp (name_of e) (name_of (shown h))) in
      map-append shown (filter (λ x. lesser (shown x)) hs) (h ∷ filter (λ x. greater (shown x)) hs)
      ∙ ap₂ (λ xs ys. xs ++ shown h ∷ ys) (map-filter lesser shown hs) (map-filter greater shown hs)

  -- and found as it is
  pub named-map : (hs : List H) (name : List ℕ) → named name_of (map shown hs) name ≡ option_map shown (named (λ x. name_of (shown x)) hs name)
  named-map [] name = refl
  named-map (h ∷ hs) name = pick (bytes_eq (name_of (shown h)) name) (named-map hs name)
    where
      pick : (b : Bool) → named name_of (map shown hs) name ≡ option_map shown (named (λ x. name_of (shown x)) hs name)
          → cond b (Some (shown h)) (named name_of (map shown hs) name) ≡ option_map shown (cond b (Some h) (named (λ x. name_of (shown x)) hs name))
      pick true rest = refl
      pick false rest = rest
