-- Laws of the limits of a trace.
use Rattle.std.proofs.Common.{◌≡◌, ◌<◌, Bool, true, false, ℤ, List, All, get_or, length, Some, None, arith, not, cond, refl}
use Rattle.std.specs.Prelude.{position, nat_lt}
use Rattle.std.specs.List.{position_or_len}
use Rattle.std.proofs.lemmas.Int.{ints}
use Rattle.std.proofs.lemmas.Bool.Decides.{nat_tests}
use Rattle.std.proofs.lemmas.List.Sums.{fails_before_first}
use Rattle.cds_trace.specs.Signal.{IsSample}
use Rattle.cds_trace.specs.TraceText.{is_sample}

-- a number that passes the test is one that a sample may be
pub IsSample-test : (sample : ℤ) → is_sample sample ≡ true → IsSample sample
IsSample-test sample h = record { least = grind (arith, ints); greatest = grind (arith, ints) }

-- where no element passes a test, each fails it
pub All-position : {X : Type 0} (p : X → Bool) (xs : List X) → position p xs ≡ None → All (λ x. p x ≡ false) xs
All-position p xs h k d below = fails_before_first p xs k d (past (nat_lt (position_or_len p xs) (length xs)) refl h)
  where
    past : (b : Bool) → nat_lt (position_or_len p xs) (length xs) ≡ b → cond b (Some (position_or_len p xs)) None ≡ None → k < position_or_len p xs
    past true e n = cc n
    past false e n = grind (arith, nat_tests)

-- samples of which none is out of range
pub All-in_range : (xs : List ℤ) → position (λ sample. not (is_sample sample)) xs ≡ None → All IsSample xs
All-in_range xs h k d below = IsSample-test (get_or xs k d) (grind (arith, All-position (λ sample. not (is_sample sample)) xs h k d below))
