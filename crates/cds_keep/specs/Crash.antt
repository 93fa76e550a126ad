-- What a crash leaves of a store.
use Rattle.std.specs.Prelude.{◌≡◌, ◌⊎◌, ℕ, ◌≤◌, List, [], ◌∷◌, ◌++◌, Option, Some, None, option_map, IfSome}
use Rattle.std.specs.Option.{option_and_then}
use Rattle.cds_keep.specs.Found.{Found, records}

-- the told records with this record behind them, where there is one
abbrev pub with_record : Option (List (List ℕ)) → Option (List ℕ) → Option (List (List ℕ))
with_record content more = option_and_then (λ body. option_map (λ list. list ++ body ∷ []) content) more

-- this list is the told content, or the content with the pending record behind it
abbrev pub IsContent : Option (List (List ℕ)) → Option (List ℕ) → List (List ℕ) → Type 0
IsContent content pending left = (content ≡ Some left) ⊎ (with_record content pending ≡ Some left)

-- this list is the told content, or the content with the pending record or with the new record behind it
abbrev pub IsContentOrPut : Option (List (List ℕ)) → Option (List ℕ) → List ℕ → List (List ℕ) → Type 0
IsContentOrPut content pending body left = IsContent content pending left ⊎ (with_record content (Some body) ≡ Some left)

-- a load finds the told content, or the content with the pending record behind it, where it is told what it finds
abbrev pub FindsContentOrPending : Option Found → Option (List (List ℕ)) → Option (List ℕ) → Type 0
FindsContentOrPending found content pending = IfSome found
    (λ f. (Some f ≡ option_map records content) ⊎ (Some f ≡ option_map records (with_record content pending)))

-- what is pending after a put that failed: the new record, what was pending before, or nothing
abbrev pub MayPend : Option (List ℕ) → List ℕ → Option (List ℕ) → Type 0
MayPend before body now = (now ≡ Some body) ⊎ (now ≡ before) ⊎ (now ≡ None)

-- Time went on from one moment to another: a list that a crash since an earlier moment may have left is one that it
-- might have left before, or one of these.
pub record Leaves (before now : ℕ) (past since : ℕ → List (List ℕ) → Type 0) (these : List (List ℕ) → Type 0) : Type 0 where
  pub later : before ≤ now
  pub nothing_else : (t : ℕ) (left : List (List ℕ)) → t ≤ before → since t left → past t left ⊎ these left
