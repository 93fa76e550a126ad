-- What the rows of a sequence state is within its ranges, so that each number of the results can be computed. This
-- project's own.
use Rattle.std.specs.Prelude.{ℕ, ◌<◌, ◌≤◌, List, All, IfOk, length}
use Rattle.cds_base.specs.declared.limits.TheConstants.{MOST_AMOUNT}
use Rattle.cds_sign.specs.Ranges.{IsWithin}
use Rattle.cds_sign.specs.declared.limits.TheConstants.{MOST_ROWS}
use Rattle.cds_graph.specs.Found.{FoundRow, FoundStandard, FoundListed, FoundSequence}

-- the amounts that a standard states are each 1 to 1,000,000,000
abbrev pub AreAmounts : List (List ℕ × ℕ) → Type 0
AreAmounts amounts = All (λ (a : List ℕ × ℕ). IsWithin 1 MOST_AMOUNT a.1) amounts

-- each standard of a listed sequence states such amounts
abbrev pub StateAmounts : FoundListed → Type 0
StateAmounts listed = All (λ (standard : FoundStandard). AreAmounts standard.row.amounts) listed.rows

-- a sequence within its ranges: it has at most 200 rows, nothing is diluted by 0, its standards state amounts, and its
-- noise, where it has one, is above 0
pub record IsInRange (sequence : FoundSequence) : Type 0 where
  pub few : length sequence.rows ≤ MOST_ROWS
  pub diluted : All (λ (row : FoundRow). 1 ≤ row.row.v) sequence.rows
  pub standards : All StateAmounts sequence.standards
  pub noise : IfOk sequence.noise (λ range. 0 < range)
