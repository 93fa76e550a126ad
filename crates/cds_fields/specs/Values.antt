-- What a value states, for each kind of field. Nothing where it is of another kind or out of range.
use Rattle.std.specs.Prelude.{ℕ, ◌&&◌, nat_le, ℤ, pos, negsuc, int_le, List, [], ◌∷◌, Option, Some, None, option_and_then, if◌then◌else◌}
use Rattle.std.specs.Str.{bytes_eq}
use Rattle.cds_base.specs.NameText.{name_of}
use Rattle.cds_fields.specs.Datum.{Datum, whole_in, word_in}

-- the number, if it lies from the least to the most
abbrev pub within : ℕ → ℕ → ℤ → Option ℕ
within least most (pos n) = if nat_le least n && nat_le n most then Some n else None
within least most (negsuc n) = None

-- a whole number from the least to the most
abbrev pub number_in : ℕ → ℕ → Datum → Option ℕ
number_in least most d = option_and_then (within least most) (whole_in d)

-- the number, if it lies from the least to the most, which may be below zero
abbrev pub between : ℤ → ℤ → ℤ → Option ℤ
between least most z = if int_le least z && int_le z most then Some z else None

-- a whole number from the least to the most, which may be below zero
abbrev pub signed_in : ℤ → ℤ → Datum → Option ℤ
signed_in least most d = option_and_then (between least most) (whole_in d)

-- a name
abbrev pub name_in : Datum → Option (List ℕ)
name_in d = option_and_then name_of (word_in d)

-- what stands beside a word in a list of words
abbrev pub beside : {X : Type 0} → List (List ℕ × X) → List ℕ → Option X
beside [] text = None
beside (word ∷ words) text = if bytes_eq text word.0 then Some word.1 else beside words text

-- one of a list of words: what stands beside it
abbrev pub one_of : {X : Type 0} → List (List ℕ × X) → Datum → Option X
one_of words d = option_and_then (beside words) (word_in d)
