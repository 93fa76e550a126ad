-- What an object of the outside tells of its content: bytes, or nothing.
use Rattle.std.specs.Prelude.{ℕ, List, ◌++◌, Option, option_map}

-- what is known, with more bytes behind it
abbrev pub then_more : Option (List ℕ) → List ℕ → Option (List ℕ)
then_more known more = option_map (λ bytes. bytes ++ more) known

-- what is known, with more bytes in front of it
abbrev pub more_before : List ℕ → Option (List ℕ) → Option (List ℕ)
more_before more known = option_map (λ bytes. more ++ bytes) known
