-- What a load of a store finds.
use Rattle.std.specs.Prelude.{◌≡◌, ◌⊎◌, ℕ, List, [], ◌∷◌, ◌++◌, Option, IfSome}

-- the records that the store holds, or the number, counted from 1, of the first that it can't delimit
pub data Found : Type 0 where
  records : List (List ℕ) → Found
  damaged : ℕ → Found

-- these records, or these with one more behind them
abbrev pub OneMoreAtMost : List (List ℕ) → Found → Type 0
OneMoreAtMost list found = (found ≡ records list) ⊎ ((more : List ℕ) × (found ≡ records (list ++ more ∷ [])))

-- a load finds exactly the records that the store tells, where both are told
abbrev pub FindsContent : Option Found → Option (List (List ℕ)) → Type 0
FindsContent found content = IfSome found (λ f. IfSome content (λ list. f ≡ records list))

-- a load finds the records that the store tells, or these with one more behind them, where both are told
abbrev pub FindsOneMoreAtMost : Option Found → Option (List (List ℕ)) → Type 0
FindsOneMoreAtMost found content = IfSome found (λ f. IfSome content (λ list. OneMoreAtMost list f))
