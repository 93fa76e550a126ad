-- What stands under a number in a list, counted from 1.
use Rattle.std.proofs.Common.{◌≡◌, ◌∙◌, ℕ, ◌+◌, ◌-◌, ◌<◌, ◌==◌, Bool, true, false, inl, inr, List, [], ◌∷◌, ◌++◌, length, get_or, Option, Some, None, refl, sym, ap, subst, arith, slice_get, if◌then◌else◌}
use Rattle.std.specs.Prelude.{◌≢◌, IfSome}
use Rattle.std.proofs.lemmas.Bool.{cases_eq, cases_lt}
use Rattle.std.proofs.lemmas.Bool.Decides.{nat_tests}
use Rattle.std.proofs.lemmas.List.{get_or_append_left, length-append}
use Rattle.std.proofs.lemmas.Option.{slice_get-get_or, slice_get_past, slice_get_within}
use Rattle.cds_sign.specs.declared.signed.Signed.{Signed}
use Rattle.cds_book.specs.Kept.{AreNumbered}
use Rattle.cds_book.specs.Tables.{numbered}
use Rattle.cds_book.proofs.VersionLaws.{latest-push}

-- an item of a list with more behind it
slice_get-append : {X : Type 0} (xs ys : List X) (i : ℕ) (x : X) → slice_get xs i ≡ Some x → slice_get (xs ++ ys) i ≡ Some x
slice_get-append xs ys i x is =
    let below : i < length xs = slice_get_within xs i x is in
    let long : i < length (xs ++ ys) = omega (arith, length-append xs ys) in
    let here : Some (get_or xs i x) ≡ Some x = sym (slice_get-get_or xs i x below) ∙ is in
    slice_get-get_or (xs ++ ys) i x long ∙ ap Some (get_or_append_left xs ys x i below) ∙ here

-- it stays with more items behind it
pub numbered-append : {X : Type 0} (items more : List X) (number : ℕ) (x : X) → numbered items number ≡ Some x → numbered (items ++ more) number ≡ Some x
numbered-append items more number x = by_test (number == 0)
  where
    by_test : (b : Bool) → (if b then None else slice_get items (number - 1)) ≡ Some x → (if b then None else slice_get (items ++ more) (number - 1)) ≡ Some x
    by_test true is = cc
    by_test false is = slice_get-append items more (number - 1) x is

-- a further item has the next number
pub numbered-push : {X : Type 0} (items : List X) (x : X) → numbered (items ++ x ∷ []) (length items + 1) ≡ Some x
numbered-push items x =
    let some : (length items + 1 == 0) ≡ false = grind (arith, nat_tests) in
    let at : length (items ++ x ∷ []) - 1 ≡ length items + 1 - 1 = omega (arith, length-append items (x ∷ [])) in
    rw some (subst (λ n. slice_get (items ++ x ∷ []) n ≡ Some x) at (latest-push items x))

-- a number behind the last one is that of none
pub numbered-past : {X : Type 0} (items : List X) (number : ℕ) → length items < number → numbered items number ≡ None
numbered-past items number past =
    let some : (number == 0) ≡ false = grind (arith, nat_tests) in
    rw some (slice_get_past items (number - 1) (omega (arith, past)))

-- a number of none is 0 or behind the last one
past-numbered : {X : Type 0} (items : List X) (number : ℕ) (x : X) → numbered items number ≡ None → number ≢ 0 → length items < number
past-numbered items number x none some = elim (cases_lt (number - 1) (length items)) [
  | inl below ↦
      let test : (number == 0) ≡ false = grind (arith, nat_tests) in
      let found : numbered items number ≡ Some (get_or items (number - 1) x) = rw test (slice_get-get_or items (number - 1) x below) in
      let contrary : None ≡ Some (get_or items (number - 1) x) = sym none ∙ found in
      cc
  | inr past ↦ omega arith
]

-- with one more item, each number but the next one is that of the same item
pub numbered-other : {X : Type 0} (items : List X) (x : X) (number : ℕ) → number ≢ length items + 1 → numbered (items ++ x ∷ []) number ≡ numbered items number
numbered-other {X = X} items x number differs = by_found (numbered items number) refl
  where
    by_found : (found : Option X) → numbered items number ≡ found → numbered (items ++ x ∷ []) number ≡ found
    by_found (Some y) is = numbered-append items (x ∷ []) number y is
    by_found None is = elim (cases_eq number 0) [
      | inl zero ↦ rw zero refl
      | inr some ↦
          let past = past-numbered items number x is some in
          let long = length-append items (x ∷ []) in
          numbered-past (items ++ x ∷ []) number (omega (arith, past, long, differs))
    ]

-- none are numbered
pub AreNumbered-none : AreNumbered []
AreNumbered-none number = elim (cases_eq number 0) [
  | inl zero ↦ rw zero tt
  | inr some ↦ subst (λ o. IfSome o (λ (s : Signed). s.number ≡ number)) (sym (numbered-past [] number (omega arith))) tt
]

-- signatures stay numbered with one more of the next number
pub AreNumbered-push : (signed : List Signed) (x : Signed) → AreNumbered signed → x.number ≡ length signed + 1 → AreNumbered (signed ++ x ∷ [])
AreNumbered-push signed x numbers next number = elim (cases_eq number (length signed + 1)) [
  | inl same ↦ subst (λ o. IfSome o (λ (s : Signed). s.number ≡ number)) (sym (ap (numbered (signed ++ x ∷ [])) same ∙ numbered-push signed x)) (next ∙ sym same)
  | inr differs ↦ subst (λ o. IfSome o (λ (s : Signed). s.number ≡ number)) (sym (numbered-other signed x number differs)) (numbers number)
]
