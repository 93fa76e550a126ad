-- There is a naming that no wanted pair blocks.
use Rattle.std.proofs.Common.{◌≡◌, ℕ, zero, suc, ◌+◌, ◌≤◌, Bool, true, false, cond, List, length, replicate, set, Option, Some, None, refl, ◌∙◌, subst, arith}
use Rattle.std.proofs.lemmas.List.{length-replicate, length-set}
use Rattle.cds_base.specs.declared.Window.{Window}
use Rattle.cds_names.specs.Naming.{TheNaming}
use Rattle.cds_names.specs.Giving.{is_free, peaks_with, taken_with}
use Rattle.cds_names.proofs.GivingSteps.{Given, Given-none, Given-more, IsUnblocked-given, pair_at, pair_within}
use Rattle.cds_names.proofs.OneNaming.{same_naming}
use Rattle.cds_names.proofs.OrderedPairs.{Ordered, ordered_pairs}

-- a write, or none, keeps the length
length-cond_set : {A : Type 0} (b : Bool) (xs : List A) (i : ℕ) (x : A) → length (cond b (set xs i x) xs) ≡ length xs
length-cond_set true xs i x = length-set xs i x
length-cond_set false xs i x = refl

-- what the first n pairs give
record After (windows : List Window) (times : List ℕ) (all : Ordered windows times) (n : ℕ) : Type 0 where
  peaks : List (Option ℕ)
  taken : List Bool
  one_each : length peaks ≡ length windows
  one_mark_each : length taken ≡ length times
  given : Given all.pairs n peaks taken

after : (windows : List Window) (times : List ℕ) (all : Ordered windows times) (n : ℕ) → n ≤ length all.pairs → After windows times all n
after windows times all zero le = record {
  peaks = replicate (length windows) None;
  taken = replicate (length times) false;
  one_each = length-replicate (length windows) None;
  one_mark_each = length-replicate (length times) false;
  given = Given-none all.pairs (length windows) (length times);
}
after windows times all (suc n) le =
    let known = after windows times all n (omega arith) in
    let q = pair_at all.pairs n in
    let within = pair_within windows times all.pairs n all.listed (omega arith) in
    let next : n + 1 ≡ suc n = omega arith in
    record {
      peaks = peaks_with known.peaks known.taken q;
      taken = taken_with known.peaks known.taken q;
      one_each = length-cond_set (is_free known.peaks known.taken q) known.peaks q.component (Some q.peak) ∙ known.one_each;
      one_mark_each = length-cond_set (is_free known.peaks known.taken q) known.taken q.peak true ∙ known.one_mark_each;
      given = subst (λ i. Given all.pairs i (peaks_with known.peaks known.taken q) (taken_with known.peaks known.taken q)) next
          (Given-more all.pairs n known.peaks known.taken known.given (omega (arith, within.0, known.one_each)) (omega (arith, within.1, known.one_mark_each)));
    }

-- there is one naming that no pair blocks, and no other
pub exactly_one_naming : (windows : List Window) (times : List ℕ) → TheNaming windows times
exactly_one_naming windows times =
    let all = ordered_pairs windows times in
    let last = after windows times all (length all.pairs) (omega arith) in
    let unblocked = IsUnblocked-given windows times all.pairs last.peaks last.taken all.listed all.in_order last.one_each last.given in
    record {
      naming = last.peaks;
      unblocked = unblocked;
      only = λ other is. same_naming windows times other last.peaks is unblocked;
    }
