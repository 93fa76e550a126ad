-- What the name and the meaning of a signature may be. This project's own rule.
use Rattle.std.specs.Prelude.{ℕ, ◌&&◌, nat_le, Bool, List, length}
use Rattle.std.specs.List.{list_all}
use Rattle.cds_sign.specs.declared.limits.TheConstants.{FIRST_PRINTED, LAST_PRINTED, MOST_PRINTED_BYTES}

-- a printed ASCII character or a space
abbrev pub is_printed_byte : ℕ → Bool
is_printed_byte byte = nat_le FIRST_PRINTED byte && nat_le byte LAST_PRINTED

-- 1 to 64 bytes, each a printed ASCII character or a space
abbrev pub is_printed : List ℕ → Bool
is_printed text = (nat_le 1 (length text) && nat_le (length text) MOST_PRINTED_BYTES) && list_all is_printed_byte text
