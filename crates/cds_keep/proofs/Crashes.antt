-- What crashes leave over several calls of a store.
use Rattle.std.proofs.Common.{inl, inr, ⊎_elim, ℕ, List, arith}
use Rattle.cds_keep.specs.Crash.{Leaves}

-- no call was made, so a crash leaves nothing else
pub leaves_start : (now : ℕ) (since : ℕ → List (List ℕ) → Type 0) (these : List (List ℕ) → Type 0) → Leaves now now since since these
leaves_start now since these = record { later = omega arith; nothing_else = λ t left le may. inl may }

-- calls and then further calls, of which each leaves lists of one kind
pub leaves_more : (first mid last : ℕ) (a b c : ℕ → List (List ℕ) → Type 0) (these those all : List (List ℕ) → Type 0) → Leaves first mid a b these → Leaves mid last b c those → ((left : List (List ℕ)) → these left → all left) → ((left : List (List ℕ)) → those left → all left) → Leaves first last a c all
leaves_more first mid last a b c these those all before after of_these of_those = record {
  later = omega (arith, before.later, after.later);
  nothing_else = λ t left le may. ⊎_elim
      (λ then. ⊎_elim (λ past. inl past) (λ is. inr (of_these left is)) (before.nothing_else t left le then))
      (λ is. inr (of_those left is))
      (after.nothing_else t left (omega (arith, le, before.later)) may);
}
