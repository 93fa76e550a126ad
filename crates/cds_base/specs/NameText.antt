-- What a name is: 1 to 64 of the ASCII letters, the digits, `-`, `_` and `.`. This project's own rule.
use Rattle.std.specs.Prelude.{◌≡◌, ℕ, ◌-◌, ◌≤◌, ◌&&◌, ◌||◌, ◌==◌, Bool, IsTrue, List, ◌++◌, length, take, drop, replicate, Option, Some, None, nat_le, if◌then◌else◌}
use Rattle.std.specs.Char.{is_ascii_alphanumeric}
use Rattle.std.specs.List.{list_all}
use Rattle.cds_base.specs.declared.name.TheConstants.{FULL_STOP, HYPHEN, MOST_NAME_BYTES, UNDERSCORE}

-- an ASCII letter, a digit, `-`, `_` or `.`
abbrev pub is_name_byte : ℕ → Bool
is_name_byte byte = ((is_ascii_alphanumeric byte || (byte == HYPHEN)) || (byte == UNDERSCORE)) || (byte == FULL_STOP)

-- 1 to 64 bytes, each of which may stand in a name
abbrev pub is_name : List ℕ → Bool
is_name bytes = (nat_le 1 (length bytes) && nat_le (length bytes) MOST_NAME_BYTES) && list_all is_name_byte bytes

abbrev pub IsName : List ℕ → Type 0
IsName bytes = IsTrue (is_name bytes)

-- the name that the bytes spell, if they spell one
abbrev pub name_of : List ℕ → Option (List ℕ)
name_of bytes = if is_name bytes then Some bytes else None

-- the bytes of a name as it is held: filled with zeros up to the most that a name has
abbrev pub padded_name : List ℕ → List ℕ
padded_name bytes = bytes ++ replicate (MOST_NAME_BYTES - length bytes) 0

-- the first `len` of the bytes are a name, and the rest is zeros
pub record NameBytes (bytes : List ℕ) (len : ℕ) : Type 0 where
  pub fits : len ≤ MOST_NAME_BYTES
  pub whole : length bytes ≡ MOST_NAME_BYTES
  pub name : IsName (take len bytes)
  pub zeros : drop len bytes ≡ replicate (MOST_NAME_BYTES - len) 0
