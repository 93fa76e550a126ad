-- The lines of the report texts: words with one space between, ended by LF. This project's own format.
use Rattle.std.specs.Prelude.{ℕ, ◌+◌, List, [], ◌∷◌, ◌++◌, Option, Some, None, codes}

-- words, each with a space before it
abbrev pub spaced : List (List ℕ) → List ℕ
spaced [] = []
spaced (word ∷ words) = codes " " ++ (word ++ spaced words)

-- the line of a first word and of more words
abbrev pub line : List ℕ → List (List ℕ) → List ℕ
line first words = first ++ (spaced words ++ codes "\n")

-- the text of a thing, and nothing where it isn't there
abbrev pub if_there : {A : Type 0} → (A → List ℕ) → Option A → List ℕ
if_there text (Some thing) = text thing
if_there text None = []

-- the texts of the things of a list, one after the other, the first of which has this number
abbrev pub each_numbered : {A : Type 0} → (ℕ → A → List ℕ) → ℕ → List A → List ℕ
each_numbered text number [] = []
each_numbered text number (thing ∷ things) = text number thing ++ each_numbered text (number + 1) things
