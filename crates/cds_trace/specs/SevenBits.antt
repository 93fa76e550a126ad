-- A number in bytes of 7 bits. This project's own form.
use Rattle.std.specs.Prelude.{ℕ, zero, suc, ◌+◌, ◌/◌, ◌%◌, List, [], ◌∷◌, nat_lt, if◌then◌else◌}
use Rattle.cds_trace.specs.declared.differences.TheConstants.{SEVEN_BITS}

-- the bytes of a number that is at most `turns`: the lowest 7 bits and, where more of it is left, the high bit before the
-- bytes of what is left
abbrev pub seven_bits_within : ℕ → ℕ → List ℕ
seven_bits_within zero n = n ∷ []
seven_bits_within (suc turns) n =
    if nat_lt n SEVEN_BITS then n ∷ [] else (SEVEN_BITS + n % SEVEN_BITS) ∷ seven_bits_within turns (n / SEVEN_BITS)

-- the number in bytes of 7 bits, the lowest first, the high bit set in all but the last: as few bytes as it takes
unfoldable pub seven_bits : ℕ → List ℕ
seven_bits n = seven_bits_within n n
