-- The samples of a trace as bytes, as a record of a store holds them: the first sample, and of each later one the
-- difference to the one before. This project's own form.
use Rattle.std.specs.Prelude.{ℕ, ◌-◌, ◌*◌, ℤ, pos, ◌-ℤ◌, List, [], ◌∷◌, ◌++◌, length, int_lt, unsigned_abs, if◌then◌else◌}
use Rattle.std.specs.Int.{w32, to_be_bytes}
use Rattle.cds_trace.specs.SampleBytes.{bytes_of_sample}
use Rattle.cds_trace.specs.SevenBits.{seven_bits}

-- a difference d as a whole number: 2d, or -2d - 1 where it is negative
abbrev pub folded : ℤ → ℕ
folded d = if int_lt d (pos 0) then 2 * unsigned_abs d - 1 else 2 * unsigned_abs d

-- the bytes of the samples behind one: of each its difference to the sample before it
unfoldable pub bytes_behind : ℤ → List ℤ → List ℕ
bytes_behind before [] = []
bytes_behind before (sample ∷ rest) = seven_bits (folded (sample -ℤ before)) ++ bytes_behind sample rest

-- the first sample as 32 bits in two's complement, the high byte first, and the differences of the others
abbrev pub first_and_differences : List ℤ → List ℕ
first_and_differences [] = []
first_and_differences (first ∷ rest) = bytes_of_sample first ++ bytes_behind first rest

-- the number of samples as 32 bits, the high byte first, the first sample, and the differences
abbrev pub bytes_of_differences : List ℤ → List ℕ
bytes_of_differences samples = to_be_bytes w32 (length samples) ++ first_and_differences samples
