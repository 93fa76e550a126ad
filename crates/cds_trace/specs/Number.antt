-- A field of the text of a trace as a number.
use Rattle.std.specs.Prelude.{ℕ, ◌-◌, Bool, ◌&&◌, ◌||◌, ◌==◌, nat_le, if◌then◌else◌, ℤ, pos, neg_ℤ, List, length, take, drop, Option, Some, None, option_map}
use Rattle.std.specs.Char.{is_ascii_digit}
use Rattle.std.specs.List.{list_all, prefix_len, suffix_len}
use Rattle.std.specs.Str.Parse.{digits_value, starts_with_minus}
use Rattle.cds_trace.specs.declared.number.TheConstants.{MOST_DIGITS}

-- a space or a tab
abbrev pub is_blank : ℕ → Bool
is_blank byte = (byte == 32) || (byte == 9)

-- bytes without the blanks at their start
abbrev pub without_first_blanks : List ℕ → List ℕ
without_first_blanks bytes = drop (prefix_len is_blank bytes) bytes

-- bytes without the blanks at their end
abbrev pub without_last_blanks : List ℕ → List ℕ
without_last_blanks bytes = take (length bytes - suffix_len is_blank bytes) bytes

-- bytes without the blanks at their ends
abbrev pub without_blanks : List ℕ → List ℕ
without_blanks bytes = without_last_blanks (without_first_blanks bytes)

-- 1 to 12 digits
abbrev pub is_digits : List ℕ → Bool
is_digits bytes = (nat_le 1 (length bytes) && nat_le (length bytes) MOST_DIGITS) && list_all is_ascii_digit bytes

-- the number that 1 to 12 digits write
abbrev pub digits_number : List ℕ → Option ℕ
digits_number bytes = if is_digits bytes then Some (digits_value 10 bytes) else None

-- the number that an optional `-` and 1 to 12 digits write
abbrev pub signed_number : List ℕ → Option ℤ
signed_number bytes =
    if starts_with_minus bytes then option_map (λ n. neg_ℤ (pos n)) (digits_number (drop 1 bytes))
    else option_map pos (digits_number bytes)

-- the number that a field writes between the blanks at its ends, if it writes one
unfoldable pub number_of : List ℕ → Option ℤ
number_of field = signed_number (without_blanks field)
