-- How a text's refusals are told. A path is the names of fields and the numbers of entries, which count from 1, with points between them.
use Rattle.std.specs.Prelude.{ℕ, List, Result}
use Rattle.cds_base.specs.Answers.{Gives, Refuses}

-- the refusals of the field of a path, and want of memory
pub record Refusals (E : Type 0) : Type 0 where
  -- it must be there and isn't
  pub missing : List ℕ → E
  -- its value is of a wrong kind or outside its range, or its list is too short
  pub range : List ℕ → E
  -- no section of its kind has it
  pub unknown : List ℕ → E
  -- its list or its object has too many entries
  pub too_many : List ℕ → E
  pub wanting : E

-- the result is what is stated: its value, as it is shown, or its refusal; or it is want of memory
abbrev pub Judges : {A B E : Type 0} → Refusals E → (A → B) → Result B E → Result A E → Type 0
Judges told = Gives told.wanting

-- a refusal is the one that is stated, or want of memory for its text
abbrev pub Tells : {E : Type 0} → Refusals E → E → E → Type 0
Tells told = Refuses told.wanting
