-- The results of a sequence, computed from the signals and the methods that its inputs name and from nothing else: they
-- have no memory of what the tables held before. This project's own.
use Rattle.std.specs.Prelude.{ℕ, List, Option, map, option_map, Result}
use Rattle.cds_base.specs.declared.peak.Missing.{Missing}
use Rattle.cds_frac.specs.Fraction.{Fraction}
use Rattle.cds_sign.specs.declared.inputs.Inputs.{Inputs}
use Rattle.cds_suit.specs.declared.verdict.Verdict.{Verdict}
use Rattle.cds_integrate.specs.Seen.{RowSeen}
use Rattle.cds_book.specs.Tables.{TablesState}
use Rattle.cds_book.specs.Inputs.{inputs_of}
use Rattle.cds_graph.specs.declared.calibration.Calibration.{Calibration}
use Rattle.cds_graph.specs.declared.check_line.CheckLine.{CheckLine}
use Rattle.cds_graph.specs.Recorded.{recorded_of}
use Rattle.cds_graph.specs.Found.{FoundRow, FoundSequence, found_of}
use Rattle.cds_graph.specs.Points.{calibrations_of}
use Rattle.cds_graph.specs.Amounts.{amounts_of}
use Rattle.cds_graph.specs.Checks.{checks_of, verdict_of_checks}

-- the results of a sequence
pub record Results : Type 0 where
  -- what is found in each row, in the order of the rows
  pub rows : List RowSeen
  -- the period of the trace of each row in microseconds, in the order of the rows
  pub periods : List ℕ
  -- the calibration of each component of the method, in the order of the components
  pub calibrations : List Calibration
  -- the amounts of the components in each row, which sample rows alone have
  pub amounts : List (Option (List (Result Fraction Missing)))
  -- the noise of the first blank row
  pub noise : Result ℕ Missing
  -- the lines of each check of the method, in the order of the checks
  pub checks : List (List CheckLine)
  -- the verdict of all checks
  pub verdict : Verdict

-- the results of a sequence whose rows are found
unfoldable pub evaluated : FoundSequence → Results
evaluated sequence = record {
  rows = map (λ (r : FoundRow). r.found) sequence.rows;
  periods = map (λ (r : FoundRow). r.period) sequence.rows;
  calibrations = calibrations_of sequence;
  amounts = amounts_of sequence;
  noise = sequence.noise;
  checks = checks_of sequence;
  verdict = verdict_of_checks (checks_of sequence);
}

-- the results of inputs in the tables
unfoldable pub eval : TablesState → Inputs → Results
eval tables inputs = evaluated (found_of (recorded_of tables inputs))

-- the results of the sequence of a name; none where there is no such sequence
abbrev pub results_of : TablesState → List ℕ → Option Results
results_of tables name = option_map (eval tables) (inputs_of tables name)
