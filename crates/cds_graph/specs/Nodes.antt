-- What is found in a row, as its node keeps it.
use Rattle.std.specs.Prelude.{ℕ, ◌≡◌, ◌<◌, All, Result, Ok, Err}
use Rattle.cds_base.specs.declared.peak.Missing.{Missing}
use Rattle.cds_integrate.specs.Row.{Answer, TooMany, peaks_in}
use Rattle.cds_graph.specs.Figures.{CrossesBefore}

-- where the raw peaks are too many, their number is above 0
abbrev pub IsCounted : Answer → Type 0
IsCounted part = (number : ℕ) → part ≡ TooMany number → 0 < number

-- what is kept of the row of a trace of this period
pub record IsNode (period : ℕ) (part : Answer) : Type 0 where
  pub crossings : All (CrossesBefore period) (peaks_in part)
  pub counted : IsCounted part

-- what is there as it is seen, or why it is missing
abbrev pub seen_by : {A B : Type 0} → (A → B) → Result A Missing → Result B Missing
seen_by seen (Ok a) = Ok (seen a)
seen_by seen (Err cause) = Err cause
