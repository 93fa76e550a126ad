-- The number of a field's digits.
use Rattle.std.proofs.Common.{◌≡◌, ℕ, ◌+◌, ◌^◌, ◌<◌, ◌≤◌, true, List, [], ◌∷◌, length, arith}
use Rattle.std.specs.List.{list_all}
use Rattle.std.specs.Char.{is_ascii_digit, digit_value}
use Rattle.std.specs.Str.Parse.{digits_value, AllDigits}
use Rattle.std.proofs.lemmas.Bool.{and_parts}
use Rattle.std.proofs.lemmas.Bool.Decides.{nat_tests}
use Rattle.std.proofs.lemmas.Int.Digits.{digits_value-lt}
use Rattle.std.proofs.Math.Nat.{pow-le-pow_right}

digit_below_ten : (c : ℕ) → is_ascii_digit c ≡ true → digit_value c < 10
digit_below_ten c digit = grind (arith, nat_tests)

pub value_of_digit : (c : ℕ) → is_ascii_digit c ≡ true → (48 ≤ c) × (c ≤ 57) × (digit_value c + 48 ≡ c)
value_of_digit c digit = (grind (arith, nat_tests), grind (arith, nat_tests), grind (arith, nat_tests))

all_digits : (cs : List ℕ) → list_all is_ascii_digit cs ≡ true → AllDigits 10 cs
all_digits [] all = tt
all_digits (c ∷ cs) all =
    let both = and_parts (is_ascii_digit c) (list_all is_ascii_digit cs) all in
    (digit_below_ten c both.0, all_digits cs both.1)

pub digits_value_below : (cs : List ℕ) → list_all is_ascii_digit cs ≡ true → length cs ≤ 18 → digits_value 10 cs < 10 ^ 18
digits_value_below cs all few =
    let bound : 10 ^ length cs ≤ 10 ^ 18 = pow-le-pow_right (omega arith) few in
    omega (arith, digits_value-lt 10 cs (all_digits cs all), bound)
