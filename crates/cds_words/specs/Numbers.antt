-- The numbers of the command line. This project's own.
use Rattle.std.specs.Prelude.{ℕ, ◌^◌, ◌&&◌, Bool, List, length, Option, Some, None}
use Rattle.std.specs.Prelude.{nat_le, nat_lt, if◌then◌else◌}
use Rattle.std.specs.Char.{is_ascii_digit}
use Rattle.std.specs.Str.Parse.{digits_value}
use Rattle.std.specs.List.{list_all}
use Rattle.cds_words.specs.declared.limits.TheConstants.{MOST_DIGITS}

-- one to `MOST_DIGITS` decimal digits, and nothing else
abbrev pub is_number : List ℕ → Bool
is_number word = (nat_le 1 (length word) && nat_le (length word) MOST_DIGITS) && list_all is_ascii_digit word

-- a number of the command line is below this
abbrev pub number_limit : ℕ
number_limit = 2 ^ 64

-- a number below that limit
abbrev pub below_limit : ℕ → Option ℕ
below_limit n = if nat_lt n number_limit then Some n else None

-- the number that the digits write, where it is below the limit
abbrev pub number_of : List ℕ → Option ℕ
number_of word = if is_number word then below_limit (digits_value 10 word) else None

-- a number that lies from `low` to `high`
abbrev pub within : ℕ → ℕ → Option ℕ → Option ℕ
within low high (Some n) = if nat_le low n && nat_le n high then Some n else None
within low high None = None

-- the number that the word writes in digits, where it lies from `low` to `high`
abbrev pub number_in : ℕ → ℕ → List ℕ → Option ℕ
number_in low high word = within low high (number_of word)
