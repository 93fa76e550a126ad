-- How a climb goes on, by the flat classes in a row.
use Rattle.std.proofs.Common.{length, ◌≡◌, ℕ, zero, suc, ◌+◌, ◌<◌, Bool, true, false, cond, ◌&&◌, ◌||◌, List, Some, None, MatchOption, nat_lt, nat_le, refl, arith, ap, sym, ◌∙◌, inl, inr, add-one}
use Rattle.std.proofs.lemmas.Bool.Decides.{nat_tests}
use Rattle.std.proofs.lemmas.Bool.{lt-ltb, le-ltb, le-leb, lt-leb, cases_lt}
use Rattle.cds_detect.specs.declared.class.Class.{Class}
use Rattle.cds_detect.specs.declared.class.Class.TheVariants.{Inhibited, Up, Down, Flat}
use Rattle.cds_base.specs.Search.{least}
use Rattle.cds_detect.specs.Climbs.{flats_after}
use Rattle.cds_trace.proofs.LeastLaws.{least-skip, least-here}
use Rattle.cds_detect.specs.Spans.{is_flat, is_down, is_inhibited_class, class_at, is_flat_before, ends_climb, ends_fall}

-- how many classes in a row directly before k, all after s, are flat
pub flat_run : List Class → ℕ → ℕ → ℕ
flat_run cs s zero = 0
flat_run cs s (suc k) = cond (nat_lt s k && is_flat (class_at cs k)) (flat_run cs s k + 1) 0

one_more : (b : Bool) (m n : ℕ) → (b && nat_le m n) ≡ nat_le (suc m) (cond b (n + 1) 0)
one_more true m n = grind (arith, nat_tests)
one_more false m n = grind (arith, nat_tests)

-- so many as are asked for are flat exactly where so many are in a row
is_flat_before-run : (cs : List Class) (s m k : ℕ) → is_flat_before cs s m k ≡ nat_le m (flat_run cs s k)
unfolding flat_run
is_flat_before-run cs s zero k = grind (arith, nat_tests)
is_flat_before-run cs s (suc m) zero = grind (arith, nat_tests)
is_flat_before-run cs s (suc m) (suc k) =
    ap (λ b. (nat_lt s k && is_flat (class_at cs k)) && b) (is_flat_before-run cs s m k) ∙ one_more (nat_lt s k && is_flat (class_at cs k)) m (flat_run cs s k)

-- the class behind which the climb goes on, and how many flat ones are then in a row
goes_on : (c : Class) (f p : ℕ) → MatchOption (flats_after c f p) (((is_down c || is_inhibited_class c) || (is_flat c && nat_le p f)) ≡ true) (λ more. (((is_down c || is_inhibited_class c) || (is_flat c && nat_le p f)) ≡ false) × (more ≡ cond (is_flat c) (f + 1) 0))
goes_on Inhibited f p = refl
goes_on Up f p = (refl, refl)
goes_on Down f p = refl
goes_on Flat f p = elim (cases_lt f p) [
  | inl l ↦ rw (lt-ltb f p l) (lt-leb p f l, refl)
  | inr l ↦ rw (le-ltb f p l) (le-leb p f l)
]

-- a climb from s that has come to k, with this many flat classes in a row before it
pub climb-at : (cs : List Class) (s p k f : ℕ) → s < k → f ≡ flat_run cs s k → MatchOption (flats_after (class_at cs k) f p) (ends_climb cs p s k ≡ true) (λ more. (ends_climb cs p s k ≡ false) × (more ≡ flat_run cs s (k + 1)))
unfolding flat_run
climb-at cs s p k f l e = rw (is_flat_before-run cs s p k, add-one, lt-ltb s k l, ← e) (goes_on (class_at cs k) f p)

-- directly behind its start no class is flat yet
pub flat_run-start : (cs : List Class) (s : ℕ) → flat_run cs s (s + 1) ≡ 0
unfolding flat_run
flat_run-start cs s = rw (add-one, le-ltb s s (omega arith)) refl

-- the climb goes on over this class
pub climb-on : (cs : List Class) (s p k f more : ℕ) (class : Class) → k < length cs → s < k → class ≡ class_at cs k → f ≡ flat_run cs s k → Some more ≡ flats_after class f p → (least (ends_climb cs p s) k (length cs) ≡ least (ends_climb cs p s) (k + 1) (length cs)) × (more ≡ flat_run cs s (k + 1))
climb-on cs s p k f more class l m e flats goes =
    let taken : flats_after (class_at cs k) f p ≡ Some more = rw (← e) (sym goes) in
    let at = rw taken at (climb-at cs s p k f m flats) in
    (least-skip (ends_climb cs p s) k (length cs) l at.0, at.1)

-- the climb ends here
pub climb-ends : (cs : List Class) (s p k f : ℕ) (class : Class) → k < length cs → s < k → class ≡ class_at cs k → f ≡ flat_run cs s k → None ≡ flats_after class f p → least (ends_climb cs p s) k (length cs) ≡ k
climb-ends cs s p k f class l m e flats ends =
    let taken : flats_after (class_at cs k) f p ≡ None = rw (← e) (sym ends) in
    least-here (ends_climb cs p s) k (length cs) l (rw taken at (climb-at cs s p k f m flats))

-- the fall goes on over this class
pub fall-on : (cs : List Class) (k : ℕ) (class : Class) → k < length cs → class ≡ class_at cs k → is_down class ≡ true → least (ends_fall cs) k (length cs) ≡ least (ends_fall cs) (k + 1) (length cs)
fall-on cs k class l e down = least-skip (ends_fall cs) k (length cs) l (rw (← e, down) refl)
