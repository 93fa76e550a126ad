-- What is looked up in the results that a graph keeps.
use Rattle.std.proofs.Common.{◌≡◌, ◌==◌, arith, false, ℕ, zero, suc, List, [], Option, Some, None, refl, sym}
use Rattle.std.specs.Prelude.{unwrap_or}
use Rattle.std.proofs.lemmas.Bool.Decides.{nat_tests}
use Rattle.std.specs.Option.{option_and_then}
use Rattle.cds_book.specs.Tables.{numbered}
use Rattle.cds_graph.specs.Graph.{Kept}
use Rattle.cds_graph.specs.GraphLooks.{looked_up, results_named}
use Rattle.cds_graph.specs.Results.{Results}
use Rattle.cds_suit.specs.declared.verdict.Verdict.TheVariants.{Pass}
use Rattle.cds_report.specs.Shown.{kept_results, no_results}

-- nothing is numbered where there is nothing
pub none-numbered : {X : Type 0} (n : ℕ) → numbered {X = X} [] n ≡ None
none-numbered {X} zero = refl
none-numbered {X} (suc n) = let test : (suc n == 0) ≡ false = grind (arith, nat_tests) in rw test refl

-- it is what stands in the results, where nothing stands in those in which nothing is found
pub looked : {A : Type 0} (graph : Kept) (name : List ℕ) (look : Results → Option A) →
    look no_results ≡ None → looked_up graph name look ≡ look (kept_results graph name)
unfolding kept_results
looked {A} graph name look none = by_found (results_named graph name)
  where
    by_found : (found : Option Results) → option_and_then look found ≡ look (unwrap_or found no_results)
    by_found None = sym none
    by_found (Some results) = refl

-- the verdict is the one that is looked up, and that all pass where there is none
pub verdict-kept : (graph : Kept) (name : List ℕ) →
    (kept_results graph name).verdict ≡ unwrap_or (looked_up graph name (λ results. Some results.verdict)) Pass
unfolding kept_results no_results
verdict-kept graph name = by_found (results_named graph name)
  where
    by_found : (found : Option Results) →
        (unwrap_or found no_results).verdict ≡ unwrap_or (option_and_then (λ (r : Results). Some r.verdict) found) Pass
    by_found None = refl
    by_found (Some results) = refl
