-- The amounts of the components in the sample rows. This project's own.
use Rattle.std.specs.Prelude.{ℕ, List, Option, Some, None, map, Result, if◌then◌else◌}
use Rattle.cds_base.specs.Answers.{◌>>=◌}
use Rattle.cds_base.specs.declared.peak.Missing.{Missing}
use Rattle.cds_frac.specs.Fraction.{Fraction}
use Rattle.cds_calib.specs.Amount.{amount_of}
use Rattle.cds_graph.specs.declared.calibration.Calibration.{Calibration}
use Rattle.cds_graph.specs.Found.{FoundRow, FoundSequence}
use Rattle.cds_graph.specs.Rows.{peak_in, is_sample, with_numbers}
use Rattle.cds_graph.specs.Points.{calibrations_of}

-- the amount of the component of this number in a row: that of its peak's reported area by the line, diluted; or the
-- first cause why there is none, which is one of the peak, of the line, and of numbers past the limits
abbrev pub amount_in : FoundRow → ℕ × Calibration → Result Fraction Missing
amount_in found numbered = do
  peak ← peak_in found.found numbered.0
  line ← numbered.1.line
  amount_of line peak.units found.row.u found.row.v

-- the amounts of all components in a sample row; other rows have none
abbrev pub amounts_in : List Calibration → FoundRow → Option (List (Result Fraction Missing))
amounts_in calibrations found =
    if is_sample found.row.kind then Some (map (amount_in found) (with_numbers calibrations)) else None

-- the amounts of each row
abbrev pub amounts_of : FoundSequence → List (Option (List (Result Fraction Missing)))
amounts_of sequence = map (amounts_in (calibrations_of sequence)) sequence.rows
