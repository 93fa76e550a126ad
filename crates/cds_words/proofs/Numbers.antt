-- What `parse` answers to a text of digits.
use Rattle.std.proofs.Common.{◌≡◌, ℕ, ◌≤◌, ◌<◌, ◌^◌, List, length, true, Some, None, Result, Ok, Err, rules, arith, if◌then◌else◌}
use Rattle.std.specs.Prelude.{nat_lt, IsTrue}
use Rattle.cds_words.specs.Numbers.{is_number, below_limit}
use Rattle.std.specs.Char.{is_ascii_digit}
use Rattle.std.specs.List.{list_all}
use Rattle.std.specs.Result.{result_ok, OkIff}
use Rattle.std.specs.Str.Parse.{digits_value, ParsesUnsigned}
use Rattle.std.proofs.lemmas.Str.Parse.{IsNumeralModel, numerals_by_value, parse_digits}
use Rattle.std.proofs.lemmas.Bool.Decides.{nat_tests}
use Rattle.std.proofs.lemmas.Grind.{common_steps}

own : IsNumeralModel (λ ds. list_all is_ascii_digit ds ≡ true) (digits_value 10)
own = numerals_by_value _ (search rules)

-- an answer that is there exactly below a limit, as a choice by that test
found_below : {E : Type 0} (n v limit : ℕ) (r : Result ℕ E) → 1 ≤ n → OkIff r ((0 < n) × (v < limit)) v → result_ok r ≡ (if nat_lt v limit then Some v else None)
found_below n v limit (Ok x) some h = let below : v < limit = h.0.1 in let same : x ≡ v = h.1 in grind (arith, nat_tests, common_steps)
found_below n v limit (Err e) some h = let not_below : ¬ (v < limit) = (λ b. h (omega arith, b)) in grind (arith, nat_tests, common_steps)

-- digits are read as their number, where it is below 2^64
pub parsed_digits : {E : Type 0} (text : List ℕ) (r : Result ℕ E) → ParsesUnsigned 64 10 text r → IsTrue (is_number text) → result_ok r ≡ below_limit (digits_value 10 text)
parsed_digits text r h number = found_below (length text) (digits_value 10 text) (2 ^ 64) r (some_of text number) (parse_digits own 64 text r h (digits_of text number))
  where
    some_of : (text : List ℕ) → IsTrue (is_number text) → 1 ≤ length text
    some_of text number = grind (arith, nat_tests, common_steps)

    digits_of : (text : List ℕ) → IsTrue (is_number text) → list_all is_ascii_digit text ≡ true
    digits_of text number = grind (arith, nat_tests, common_steps)
