-- What was received, from what is told of the source.
use Rattle.std.proofs.Common.{◌≡◌, ℕ, ◌<◌, ◌+◌, List, [], ◌++◌, length, Option, Some, None, sym, ap, inl, inr, arith, length-append, ◌∙◌}
use Rattle.std.specs.Prelude.{IfSome}
use Rattle.std.proofs.lemmas.List.{append-nil}
use Rattle.cds_base.specs.Told.{more_before}
use Rattle.cds_respond.specs.Receiving.{AreReceived}
use Rattle.cds_respond.specs.declared.receiving.TheConstants.{MOST_SOURCE_BYTES}

-- all was received where nothing is left
pub received_all : (before now : Option (List ℕ)) (bytes : List ℕ) → before ≡ more_before bytes now → IfSome now (λ rest. rest ≡ []) → IfSome before (λ all. AreReceived all bytes)
received_all None now bytes e ended = tt
received_all (Some all) None bytes e ended = cc
received_all (Some all) (Some rest) bytes e ended = let f : Some all ≡ Some (bytes ++ rest) = e in let g : all ≡ bytes ++ [] = cc in inl (sym (g ∙ append-nil bytes))

-- too much was received
pub received_too_many : (before now : Option (List ℕ)) (bytes : List ℕ) → before ≡ more_before bytes now → MOST_SOURCE_BYTES < length bytes → IfSome before (λ all. AreReceived all bytes)
received_too_many None now bytes e long = tt
received_too_many (Some all) None bytes e long = cc
received_too_many (Some all) (Some rest) bytes e long = let f : Some all ≡ Some (bytes ++ rest) = e in let g : all ≡ bytes ++ rest = cc in inr (long, omega (arith, ap length g, length-append bytes rest))
