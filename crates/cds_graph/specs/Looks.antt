-- What is looked up in the results of a sequence. Rows, components, checks and the lines of a check are each numbered
-- from 1. This project's own.
use Rattle.std.specs.Prelude.{ℕ, List, Option, option_map, length, Result}
use Rattle.std.specs.Option.{option_and_then}
use Rattle.cds_base.specs.declared.peak.Missing.{Missing}
use Rattle.cds_calib.specs.Fit.{CalibrationLine}
use Rattle.cds_frac.specs.Fraction.{Fraction}
use Rattle.cds_integrate.specs.Seen.{RowSeen}
use Rattle.cds_book.specs.Tables.{numbered}
use Rattle.cds_graph.specs.declared.calibration.Calibration.{Calibration}
use Rattle.cds_graph.specs.declared.check_line.CheckLine.{CheckLine}
use Rattle.cds_graph.specs.Results.{Results}

-- what is found in a row
abbrev pub row_at : Results → ℕ → Option RowSeen
row_at results n = numbered results.rows n

-- the period of a row's trace, in microseconds
abbrev pub period_at : Results → ℕ → Option ℕ
period_at results n = numbered results.periods n

-- how many points a component has
abbrev pub points_at : Results → ℕ → Option ℕ
points_at results component =
    option_map (λ (c : Calibration). length c.points) (numbered results.calibrations component)

-- the line of a component, or why it has none
abbrev pub line_at : Results → ℕ → Option (Result CalibrationLine Missing)
line_at results component = option_map (λ (c : Calibration). c.line) (numbered results.calibrations component)

-- the determination of a component's points in ten-thousandths, or why there is none
abbrev pub determination_at : Results → ℕ → Option (Result ℕ Missing)
determination_at results component =
    option_map (λ (c : Calibration). c.determination) (numbered results.calibrations component)

-- the amounts of the components in a row, which sample rows alone have
abbrev pub amounts_at : Results → ℕ → Option (List (Result Fraction Missing))
amounts_at results n = option_and_then (λ amounts. amounts) (numbered results.amounts n)

-- the amount of a component in a sample row, or why it is missing
abbrev pub amount_at : Results → ℕ → ℕ → Option (Result Fraction Missing)
amount_at results n component = option_and_then (λ amounts. numbered amounts component) (amounts_at results n)

-- a line of a check
abbrev pub check_at : Results → ℕ → ℕ → Option CheckLine
check_at results i k = option_and_then (λ lines. numbered lines k) (numbered results.checks i)
