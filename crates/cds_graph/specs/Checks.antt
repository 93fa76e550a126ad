-- The checks of system suitability: the lines of each, and the verdict of all. This project's own.
use Rattle.std.specs.Prelude.{ℕ, List, [], ◌∷◌, Option, Some, None, map, take, flat_map, filter_map, option_map}
use Rattle.std.specs.Prelude.{Result, Ok, Err, pos, if◌then◌else◌}
use Rattle.std.specs.List.{filter}
use Rattle.std.specs.Option.{option_and_then}
use Rattle.cds_base.specs.Answers.{◌>>=◌}
use Rattle.cds_base.specs.declared.limits.TheConstants.{HUNDREDTHS}
use Rattle.cds_base.specs.declared.peak.Missing.{Missing}
use Rattle.cds_base.specs.declared.peak.Missing.TheVariants.{TooFew}
use Rattle.cds_rules.specs.declared.check.Check.{Check}
use Rattle.cds_rules.specs.declared.check.CheckKind.{CheckKind}
use Rattle.cds_rules.specs.declared.check.CheckKind.TheVariants.{Resolution, Tailing, Plates, SignalNoise, Retention}
use Rattle.cds_rules.specs.declared.check.CheckKind.TheVariants.{PeakValley, RsdArea, RsdTime, R2}
use Rattle.cds_frac.specs.Fraction.{Fraction, lowest_terms}
use Rattle.cds_calib.specs.declared.point.Point.{Point}
use Rattle.cds_calib.specs.declared.determination.TheConstants.{MOST_DETERMINATION}
use Rattle.cds_calib.specs.Determination.{at_least_of, determination_of}
use Rattle.cds_suit.specs.declared.square.TheConstants.{MOST_VALUES}
use Rattle.cds_suit.specs.declared.verdict.Verdict.{Verdict}
use Rattle.cds_suit.specs.declared.verdict.Verdict.TheVariants.{Undecided}
use Rattle.cds_suit.specs.Check.{check_of}
use Rattle.cds_suit.specs.Deviation.{at_most_of, floor_of}
use Rattle.cds_suit.specs.Verdict.{verdict_of, overall_of}
use Rattle.cds_integrate.specs.Seen.{PeakSeen}
use Rattle.cds_graph.specs.declared.check_line.CheckLine.{CheckLine}
use Rattle.cds_graph.specs.Found.{FoundRow, FoundSequence}
use Rattle.cds_graph.specs.Rows.{peak_in, is_replicate, with_numbers}
use Rattle.cds_graph.specs.Points.{calibrations_of, points_numbered}
use Rattle.cds_graph.specs.Figures.{plates_in, tailing_in, signal_noise_in, retention_in, peak_valley_in}
use Rattle.cds_graph.specs.Figures.{of_peak, of_two_peaks}

-- the value that a check of this kind compares in a row; none for the kinds that look at several rows or at a line
abbrev pub value_by : CheckKind → FoundSequence → Check → FoundRow → Option (Result Fraction Missing)
value_by Resolution sequence check row = Some (of_two_peaks check row.found)
value_by Tailing sequence check row = Some (of_peak (tailing_in row.period) check row.found)
value_by Plates sequence check row = Some (of_peak plates_in check row.found)
value_by SignalNoise sequence check row = Some (of_peak (signal_noise_in sequence.noise) check row.found)
value_by Retention sequence check row = Some (of_peak (retention_in sequence.fields.dead_time_us) check row.found)
value_by PeakValley sequence check row = Some (of_peak peak_valley_in check row.found)
value_by RsdArea sequence check row = None
value_by RsdTime sequence check row = None
value_by R2 sequence check row = None

-- the line of a check in the row of this number for this value, with its verdict
abbrev pub value_line : Check → ℕ → Result Fraction Missing → Option CheckLine
value_line check number value =
    option_map (λ verdict. record { row = Some number; value = value; verdict = verdict })
    (check_of check.kind value check.limit)

-- the line of a check in a row with its number, if that is a replicate
abbrev pub row_line : FoundSequence → Check → ℕ × FoundRow → Option CheckLine
row_line sequence check numbered =
    if is_replicate numbered.1.row.kind
    then option_and_then (value_line check numbered.0) (value_by check.kind sequence check numbered.1)
    else None

-- a line of all rows, with this value and this verdict
abbrev pub all_rows_line : Result Fraction Missing → Verdict → CheckLine
all_rows_line value verdict = record { row = None; value = value; verdict = verdict }

-- these lines; where there is none, since no row is a replicate, one of all rows that says so
abbrev pub or_too_few : List CheckLine → List CheckLine
or_too_few [] = all_rows_line (Err TooFew) (Undecided TooFew) ∷ []
or_too_few (line ∷ later) = line ∷ later

-- the lines of a check of one value in each replicate row, in the order of the rows
abbrev pub row_lines : FoundSequence → Check → List CheckLine
row_lines sequence check = or_too_few (filter_map (row_line sequence check) (with_numbers sequence.rows))

-- what a deviation is taken of: the times of peaks, or their reported areas
abbrev pub taken_by : CheckKind → PeakSeen → ℕ
taken_by RsdTime peak = peak.time_us
taken_by _ peak = peak.units

-- what is taken of the component's peak in a row, or why it is missing
abbrev pub taken_in : Check → FoundRow → Result ℕ Missing
taken_in check row = do
  peak ← peak_in row.found check.component
  Ok (taken_by check.kind peak)

-- the values of a list, or the first cause why one is missing
abbrev pub all_values : {A : Type 0} → List (Result A Missing) → Result (List A) Missing
all_values [] = Ok []
all_values (value ∷ later) = value >>= λ a. all_values later >>= λ rest. Ok (a ∷ rest)

-- the replicate rows
abbrev pub replicates_of : List FoundRow → List FoundRow
replicates_of rows = filter (λ (row : FoundRow). is_replicate row.row.kind) rows

-- what is taken of the component's peak in each of the first 64 replicate rows, or the first cause why one is missing
abbrev pub replicate_values : Check → List FoundRow → Result (List ℕ) Missing
replicate_values check rows = all_values (map (taken_in check) (take MOST_VALUES (replicates_of rows)))

-- a number of parts of one, or why it is missing
abbrev pub shown_in : ℕ → Result ℕ Missing → Result Fraction Missing
shown_in parts number = number >>= λ q. Ok (lowest_terms (pos q) parts)

-- the line of a check of the relative standard deviation of these values; it shows hundredths, rounded down
abbrev pub deviation_line : Check → Result (List ℕ) Missing → CheckLine
deviation_line check values =
    all_rows_line (values >>= λ xs. shown_in HUNDREDTHS (floor_of xs))
    (verdict_of (values >>= λ xs. at_most_of xs check.limit))

-- the line of a check of the determination of these points; it shows ten-thousandths, rounded down
abbrev pub determination_line : Check → List Point → CheckLine
determination_line check points =
    all_rows_line (shown_in MOST_DETERMINATION (determination_of points)) (verdict_of (at_least_of points check.limit))

-- the lines of a check of this kind
abbrev pub lines_by : CheckKind → FoundSequence → Check → List CheckLine
lines_by RsdArea sequence check = deviation_line check (replicate_values check sequence.rows) ∷ []
lines_by RsdTime sequence check = deviation_line check (replicate_values check sequence.rows) ∷ []
lines_by R2 sequence check =
    determination_line check (points_numbered (calibrations_of sequence) check.component) ∷ []
lines_by _ sequence check = row_lines sequence check

-- the lines of a check
abbrev pub lines_of : FoundSequence → Check → List CheckLine
lines_of sequence check = lines_by check.kind sequence check

-- the lines of each check of the method, in their order
abbrev pub checks_of : FoundSequence → List (List CheckLine)
checks_of sequence = map (lines_of sequence) sequence.fields.checks

-- the verdicts of the lines of a check
abbrev pub verdicts_of : List CheckLine → List Verdict
verdicts_of lines = map (λ (line : CheckLine). line.verdict) lines

-- the verdict of all checks: Fail where one line fails, else that of the first undecided line, else Pass
abbrev pub verdict_of_checks : List (List CheckLine) → Verdict
verdict_of_checks checks = overall_of (flat_map verdicts_of checks)
