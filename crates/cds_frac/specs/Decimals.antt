-- A number as a decimal number.
use Rattle.std.specs.Prelude.{ℕ, zero, suc, ◌+◌, ◌*◌, ◌/◌, ◌%◌, ◌^◌, List, [], ◌∷◌, ◌++◌, map, unsigned_abs}
use Rattle.std.specs.Fmt.{decimal, sign_text}
use Rattle.std.specs.Int.{is_negative}
use Rattle.std.specs.List.{range_with_len}
use Rattle.cds_frac.specs.Fraction.{Fraction}

-- the character of the i-th decimal of `size / den`: the last digit of 10^i times the number, cut to a whole number
abbrev pub decimal_at : ℕ → ℕ → ℕ → ℕ
decimal_at size den i = 48 + size * 10 ^ i / den % 10

-- the first k decimals of `size / den`
abbrev pub decimals : ℕ → ℕ → ℕ → List ℕ
decimals size den k = map (decimal_at size den) (range_with_len 1 k)

-- a point and the first k decimals, and nothing where k is 0
abbrev pub fraction_text : ℕ → ℕ → ℕ → List ℕ
fraction_text size den zero = []
fraction_text size den (suc k) = 46 ∷ decimals size den (suc k)

-- the number with k decimals, cut towards 0: `-` where it is below 0, its whole part, and for k > 0 a point and k decimals
abbrev pub decimal_text : Fraction → ℕ → List ℕ
decimal_text f k =
    sign_text (is_negative f.num)
    ++ (decimal (unsigned_abs f.num / f.den) ++ fraction_text (unsigned_abs f.num) f.den k)
