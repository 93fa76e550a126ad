-- The verdict of several as a fold.
use Rattle.std.proofs.Common.{◌≡◌, ◌⊎◌, inl, inr, Bool, true, false, cond, List, [], ◌∷◌, ◌++◌, Option, Some, None, find, unwrap_or, refl, sym, ap, ◌∙◌}
use Rattle.std.specs.List.{list_any}
use Rattle.cds_base.specs.declared.peak.Missing.{Missing}
use Rattle.cds_suit.specs.declared.verdict.Verdict.{Verdict}
use Rattle.cds_suit.specs.declared.verdict.Verdict.TheVariants.{Pass, Fail, Undecided}
use Rattle.cds_suit.specs.Verdict.{is_fail, is_undecided, overall_of, joined}

-- a search for an undecided verdict finds nothing or an undecided one
found : (vs : List Verdict) → (find is_undecided vs ≡ None) ⊎ ((other : Missing) × (find is_undecided vs ≡ Some (Undecided other)))
found [] = inl refl
found (Pass ∷ vs) = found vs
found (Fail ∷ vs) = found vs
found (Undecided other ∷ vs) = inr (other, refl)

undecided_first : (cause : Missing) (fails : Bool) (o : Option Verdict) → (o ≡ None) ⊎ ((other : Missing) × (o ≡ Some (Undecided other)))
    → cond fails Fail (Undecided cause) ≡ joined (Undecided cause) (cond fails Fail (unwrap_or o Pass))
undecided_first cause true o soft = refl
undecided_first cause false o (inl none) = rw none refl
undecided_first cause false o (inr (other, some)) = rw some refl

-- a verdict before the others
overall_of-cons : (v : Verdict) (vs : List Verdict) → overall_of (v ∷ vs) ≡ joined v (overall_of vs)
overall_of-cons Pass vs = refl
overall_of-cons Fail vs = refl
overall_of-cons (Undecided cause) vs = undecided_first cause (list_any is_fail vs) (find is_undecided vs) (found vs)

joined-joined : (u v w : Verdict) → joined u (joined v w) ≡ joined (joined u v) w
joined-joined Pass v w = refl
joined-joined Fail v w = refl
joined-joined (Undecided c) Pass w = refl
joined-joined (Undecided c) Fail w = refl
joined-joined (Undecided c) (Undecided d) Pass = refl
joined-joined (Undecided c) (Undecided d) Fail = refl
joined-joined (Undecided c) (Undecided d) (Undecided e) = refl

-- one list behind the other
pub overall_of-append : (xs ys : List Verdict) → overall_of (xs ++ ys) ≡ joined (overall_of xs) (overall_of ys)
overall_of-append [] ys = refl
overall_of-append (x ∷ xs) ys =
    overall_of-cons x (xs ++ ys) ∙ ap (joined x) (overall_of-append xs ys) ∙ joined-joined x (overall_of xs) (overall_of ys) ∙ ap (λ v. joined v (overall_of ys)) (sym (overall_of-cons x xs))
