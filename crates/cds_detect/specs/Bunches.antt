-- The range of a bunch's sum.
use Rattle.std.specs.Prelude.{ℤ, neg_ℤ, ◌≤ℤ◌}
use Rattle.cds_detect.specs.declared.bunch.TheConstants.{GREATEST_BUNCH_SUM}

-- the sum of as many samples as a bunch may have, each in the range of a sample
pub record IsBunchSum (sum : ℤ) : Type 0 where
  pub least : neg_ℤ GREATEST_BUNCH_SUM ≤ℤ sum
  pub greatest : sum ≤ℤ GREATEST_BUNCH_SUM
