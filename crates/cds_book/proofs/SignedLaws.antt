-- A signature keeps the inputs of its sequence.
use Rattle.std.proofs.Common.{◌≡◌, ℕ, List, Option, Some, None, option_map, ap}
use Rattle.std.specs.Prelude.{IsSome}
use Rattle.cds_sign.specs.declared.inputs.Inputs.{Inputs}
use Rattle.cds_sign.specs.declared.sequence.Sequence.{Sequence}
use Rattle.cds_sign.specs.declared.signed.Signed.{Signed}
use Rattle.cds_book.specs.Held.{bindings_over}
use Rattle.cds_book.specs.Inputs.{bindings_of, inputs_by, inputs_in}
use Rattle.cds_book.specs.Tables.{TablesState, sequence_of}
use Rattle.cds_book.specs.declared.over.Over.TheVariants as over

-- a sequence that is there has inputs
pub no_inputs : (t : TablesState) (name : List ℕ) → IsSome (sequence_of t name) → None ≡ inputs_by (bindings_over t over.Nothing) name → ⊥
unfolding bindings_over inputs_by bindings_of
no_inputs t name there = by_found (sequence_of t name) there
  where
    by_found : (found : Option Sequence) → IsSome found → None ≡ option_map (inputs_in (bindings_of t)) found → ⊥
    by_found None some is = cc
    by_found (Some s) some is = cc

-- a signature over them
pub signed-inputs : (t : TablesState) (name : List ℕ) (sign : Inputs → Signed) (inputs : Inputs) → Some inputs ≡ inputs_by (bindings_over t over.Nothing) name
    → Some (sign inputs) ≡ option_map (λ (s : Sequence). sign (inputs_in (bindings_of t) s)) (sequence_of t name)
unfolding bindings_over inputs_by bindings_of
signed-inputs t name sign inputs = by_found (sequence_of t name)
  where
    by_found : (found : Option Sequence) → Some inputs ≡ option_map (inputs_in (bindings_of t)) found → Some (sign inputs) ≡ option_map (λ (s : Sequence). sign (inputs_in (bindings_of t) s)) found
    by_found None is = cc
    by_found (Some s) is = let one : inputs ≡ inputs_in (bindings_of t) s = cc in ap (λ i. Some (sign i)) one
