-- A sample of a trace as bytes, as a record of a store holds it.
use Rattle.std.specs.Prelude.{ℕ, ℤ, List}
use Rattle.std.specs.Int.{w32, cast_unsigned, to_be_bytes}

-- a sample as 32 bits in two's complement, the high byte first
abbrev pub bytes_of_sample : ℤ → List ℕ
bytes_of_sample sample = to_be_bytes w32 (cast_unsigned w32 sample)
