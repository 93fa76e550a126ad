-- Names of amounts and of listed sequences: none of them, and one more.
use Rattle.std.proofs.Common.{arith, ◌≡◌, ℕ, ℤ, ◌≤◌, List, [], ◌∷◌, ◌++◌, length, map, false}
use Rattle.std.proofs.lemmas.List.{length-map}
use Rattle.std.proofs.lemmas.Cmp.{nat_list_eq_equiv}
use Rattle.std.proofs.lemmas.Map.Keys.{IsDistinct-push}
use Rattle.std.specs.List.{IsDistinct, list_any}
use Rattle.std.specs.List.Sorted.{IsStrictlySortedBy}
use Rattle.std.specs.Str.{bytes_eq}
use Rattle.cds_base.specs.Named.{AreRising}
use Rattle.cds_sign.specs.Ranges.{AreAmountNames}

-- no names are different
pub none_different : IsDistinct bytes_eq []
unfolding IsDistinct
none_different = tt

-- a name that is none of some different names
pub one_more_different : (names : List (List ℕ)) (name : List ℕ) → IsDistinct bytes_eq names
    → list_any (bytes_eq name) names ≡ false → IsDistinct bytes_eq (names ++ name ∷ [])
one_more_different names name different other = IsDistinct-push nat_list_eq_equiv names name different other

none_rise : AreRising []
unfolding IsStrictlySortedBy
none_rise = tt

-- there are as many names as amounts
pub as_many_names : (most : ℕ) (amounts : List (List ℕ × ℤ)) → length amounts ≤ most
    → length (map (λ a. a.0) amounts) ≤ most
as_many_names most amounts few = rw (length-map amounts (λ a. a.0)) few

-- no names of amounts
pub no_amounts : AreAmountNames []
no_amounts = record { few = omega arith; each = λ k d within. absurd (omega arith); rising = none_rise }
