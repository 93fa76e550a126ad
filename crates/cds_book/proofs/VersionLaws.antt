-- Lists of versions, equal versions, and limits.
use Rattle.std.proofs.Common.{◌≡◌, ◌∙◌, ℕ, ◌+◌, ◌-◌, ◌<◌, ◌≤◌, ◌==◌, Bool, true, false, ℤ, inl, inr, List, [], ◌∷◌, ◌++◌, length, get_or, Option, Some, None, Ok, refl, sym, ap, arith, int_eq, ltb}
use Rattle.std.specs.Prelude.{◌≢◌}
use Rattle.std.specs.Bool.{Decides}
use Rattle.std.specs.Cmp.Lexicographic.{pointwise}
use Rattle.std.specs.Option.{option_map_or}
use Rattle.std.proofs.lemmas.Bool.{cases_lt, false≢true}
use Rattle.std.proofs.lemmas.Bool.Decides.{Decides-int_eq, Decides-eqb, Decides-and, nat_tests}
use Rattle.std.proofs.lemmas.List.{get_or_append_left, get_or-append-add, length-append}
use Rattle.std.proofs.lemmas.Option.{slice_get-get_or}
use Rattle.std.proofs.lemmas.Slice.Eq.{slice_eq-Decides}
use Rattle.cds_trace.specs.Signal.{Signal}
use Rattle.cds_book.specs.Kept.{AreChanges}
use Rattle.cds_book.specs.Plan.{limit_passed, unless_full, same_signal, is_latest}
use Rattle.cds_book.specs.Tables.{latest}
use Rattle.cds_sign.specs.declared.command.Change.{Change}
use Rattle.cds_book.specs.declared.command.Plan.TheVariants as plan

-- whether two traces are equal
pub same_signal-Decides : (a b : Signal) → Decides (same_signal a b) (a ≡ b)
same_signal-Decides a b =
    let parts = Decides-and (a.period == b.period) (pointwise int_eq a.samples b.samples) (Decides-eqb a.period b.period) (slice_eq-Decides Decides-int_eq a.samples b.samples (pointwise int_eq a.samples b.samples) refl) in (
      λ h. let both = parts.0 h in let p = both.0 in let q = both.1 in signal_eq a.period b.period a.samples b.samples p q,
      λ e. parts.1 (ap (λ (s : Signal). s.period) e, ap (λ (s : Signal). s.samples) e),
    )
  where
    signal_eq : (p q : ℕ) (xs ys : List ℤ) → p ≡ q → xs ≡ ys → let s : Signal = record { period = p; samples = xs } in let t : Signal = record { period = q; samples = ys } in s ≡ t
    signal_eq p q xs ys e f = cc

-- a further version becomes the latest
pub latest-push : {X : Type 0} (versions : List X) (x : X) → latest (versions ++ x ∷ []) ≡ Some x
latest-push versions x =
    let long : length (versions ++ x ∷ []) ≡ length versions + 1 = length-append versions (x ∷ []) in
    let at : length (versions ++ x ∷ []) - 1 ≡ length versions + 0 = omega arith in
    let below : length versions + 0 < length (versions ++ x ∷ []) = omega arith in
    rw at (slice_get-get_or (versions ++ x ∷ []) (length versions + 0) x below ∙ ap Some (get_or-append-add versions (x ∷ []) 0 x))

-- a version that was just put is the latest
pub is_latest-push : {X : Type 0} (same : X → X → Bool) → ((a b : X) → Decides (same a b) (a ≡ b)) → (versions : List X) (x : X) → is_latest same (versions ++ x ∷ []) x ≡ true
is_latest-push same decides versions x = rw (latest-push versions x) ((decides x x).1 refl)

-- what isn't the latest version differs from it
pub differs-latest : {X : Type 0} (same : X → X → Bool) → ((a b : X) → Decides (same a b) (a ≡ b)) → (versions : List X) (x d : X) → is_latest same versions x ≡ false → 0 < length versions → get_or versions (length versions - 1) d ≢ x
differs-latest same decides versions x d other some e =
    let last : latest versions ≡ Some (get_or versions (length versions - 1) d) = slice_get-get_or versions (length versions - 1) d (omega arith) in
    let answer : is_latest same versions x ≡ same (get_or versions (length versions - 1) d) x = ap (λ o. option_map_or (λ v. same v x) o false) last in
    false≢true (sym other ∙ answer ∙ (decides (get_or versions (length versions - 1) d) x).1 e)

-- versions that differ each from the one before still do with one more that isn't the latest
pub AreChanges-push : {X : Type 0} (same : X → X → Bool) → ((a b : X) → Decides (same a b) (a ≡ b)) → (versions : List X) (x : X) → AreChanges versions → is_latest same versions x ≡ false → AreChanges (versions ++ x ∷ [])
AreChanges-push same decides versions x changes other k d below =
    let long : length (versions ++ x ∷ []) ≡ length versions + 1 = length-append versions (x ∷ []) in
    let first : get_or (versions ++ x ∷ []) k d ≡ get_or versions k d = get_or_append_left versions (x ∷ []) d k (omega arith) in
    elim (cases_lt (k + 1) (length versions)) [
      | inl inside ↦
          let second : get_or (versions ++ x ∷ []) (k + 1) d ≡ get_or versions (k + 1) d = get_or_append_left versions (x ∷ []) d (k + 1) inside in
          λ e. changes k d inside (sym first ∙ e ∙ second)
      | inr end ↦
          let place : k + 1 ≡ length versions + 0 = omega arith in
          let here : k ≡ length versions - 1 = omega arith in
          let second : get_or (versions ++ x ∷ []) (k + 1) d ≡ x = rw place (get_or-append-add versions (x ∷ []) 0 d) in
          λ e. differs-latest same decides versions x d other (omega arith) (ap (λ n. get_or versions n d) (sym here) ∙ sym first ∙ e ∙ second)
    ]

-- no versions differ
pub AreChanges-none : {X : Type 0} → AreChanges {X = X} []
AreChanges-none k d below = absurd (omega arith)

-- counts within their limits
abbrev pub AreWithin : List (ℕ × ℕ) → Type 0
AreWithin [] = Unit {0}
AreWithin (c ∷ cs) = (c.0 ≤ c.1) × AreWithin cs

-- where no limit is passed, each count is within its limit
pub AreWithin-none : (counts : List (ℕ × ℕ)) → limit_passed counts ≡ None → AreWithin counts
AreWithin-none [] none = tt
AreWithin-none ((n, limit) ∷ cs) none = by_test (ltb limit n) refl (AreWithin-none cs)
  where
    by_test : (b : Bool) → ltb limit n ≡ b → (limit_passed cs ≡ None → AreWithin cs) → (n ≤ limit) × AreWithin cs
    by_test true passed rest =
        let some : limit_passed ((n, limit) ∷ cs) ≡ Some limit = rw passed refl in
        let contrary : None ≡ Some limit = sym none ∙ some in cc
    by_test false kept rest =
        let same : limit_passed ((n, limit) ∷ cs) ≡ limit_passed cs = rw kept refl in
        (grind (arith, nat_tests), rest (sym same ∙ none))

-- a change that was planned passes no limit
pub unless_full-ok : (limit : Option ℕ) (change : Change) → unless_full limit change ≡ Ok (plan.Change change) → limit ≡ None
unless_full-ok None change planned = refl
unless_full-ok (Some x) change planned = cc
