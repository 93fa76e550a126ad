-- The text of a sequence: what its results rest on, its calibration, and its rows. This project's own format.
use Rattle.std.specs.Prelude.{ℕ, List, [], ◌∷◌, ◌++◌, Result, Ok, Err, codes, decimal, length, pos, flat_map}
use Rattle.std.specs.Prelude.{if◌then◌else◌}
use Rattle.cds_base.specs.declared.peak.Missing.{Missing}
use Rattle.cds_calib.specs.Fit.{CalibrationLine}
use Rattle.cds_calib.specs.declared.determination.TheConstants.{MOST_DETERMINATION}
use Rattle.cds_frac.specs.Decimals.{decimal_text}
use Rattle.cds_frac.specs.Fraction.{Fraction, lowest_terms}
use Rattle.cds_graph.specs.Checks.{shown_in}
use Rattle.cds_graph.specs.Results.{Results}
use Rattle.cds_graph.specs.declared.calibration.Calibration.{Calibration}
use Rattle.cds_book.specs.Inputs.{is_standard}
use Rattle.cds_book.specs.Tables.{numbered}
use Rattle.cds_rules.specs.declared.component.Component.{Component}
use Rattle.cds_sign.specs.declared.inputs.Inputs.{Inputs}
use Rattle.cds_sign.specs.declared.row.Row.{Row}
use Rattle.cds_report.specs.Lines.{line, if_there, each_numbered}
use Rattle.cds_report.specs.Reported.{Reported, ListedReport}
use Rattle.cds_report.specs.RowText.{injection_text}
use Rattle.cds_report.specs.Words.{missing_word, used_word, value_word}

-- the sequence: its name, its edition and its basis
abbrev pub sequence_line : Reported → List ℕ
sequence_line report =
    line (codes "sequence")
    (report.name ∷ codes "edition" ∷ decimal report.edition ∷ codes "basis" ∷ decimal report.basis ∷ [])

-- the method by which its rows are evaluated, in the version in use
abbrev pub method_line : Inputs → List ℕ
method_line inputs = line (codes "method") (inputs.method ∷ decimal inputs.version ∷ [])

-- a listed sequence: its name, and the method by which its standards are evaluated, in the version in use
abbrev pub standards_line : ListedReport → List ℕ
standards_line listed =
    line (codes "standards") (listed.name ∷ listed.inputs.method ∷ decimal listed.inputs.version ∷ [])

-- a standard of a listed sequence: the number of its row, its trace in the version in use, and whether it is used
abbrev pub standard_line : ℕ → Row → List ℕ
standard_line number row =
    line (codes "standard") (decimal number ∷ row.trace ∷ decimal row.version ∷ used_word row.used ∷ [])

-- the line of a row of a listed sequence, if it is a standard
abbrev pub standard_text : ℕ → Row → List ℕ
standard_text number row = if is_standard row.kind then standard_line number row else []

-- a listed sequence with its standards
abbrev pub listed_text : ListedReport → List ℕ
listed_text listed = standards_line listed ++ each_numbered standard_text 1 listed.inputs.rows

-- the slope of a line: the area that one unit of the amount adds
abbrev pub slope_of : CalibrationLine → Fraction
slope_of l = lowest_terms (pos l.slope) l.divisor

-- the intercept of a line: its area at the amount 0
abbrev pub intercept_of : CalibrationLine → Fraction
intercept_of l = lowest_terms l.intercept l.divisor

-- what is said of the line of a calibration: how many points it has, its slope, its intercept and its determination; or
-- why there is no line
abbrev pub fit_words : Calibration → Result CalibrationLine Missing → List (List ℕ)
fit_words calibration (Ok l) =
    codes "points"
    ∷ decimal (length calibration.points)
    ∷ codes "slope"
    ∷ decimal_text (slope_of l) 6
    ∷ codes "intercept"
    ∷ decimal_text (intercept_of l) 6
    ∷ codes "r2"
    ∷ value_word 4 (shown_in MOST_DETERMINATION calibration.determination)
    ∷ []
fit_words calibration (Err cause) = missing_word cause ∷ []

-- the calibration of a component
abbrev pub fit_line : Component → Calibration → List ℕ
fit_line component calibration =
    line (codes "line") (component.name ∷ fit_words calibration calibration.line)

-- the calibrations of the components
abbrev pub fits_text : List Component → Results → List ℕ
fits_text components results =
    each_numbered (λ number component. if_there (fit_line component) (numbered results.calibrations number)) 1 components

-- the texts of all rows
abbrev pub rows_text : List Component → Results → List Row → List ℕ
rows_text components results rows = each_numbered (injection_text components results) 1 rows

-- the text of a sequence
unfoldable pub sequence_text : Reported → List ℕ
sequence_text report =
    sequence_line report
    ++ (method_line report.inputs
    ++ (flat_map listed_text report.listed
    ++ (fits_text report.fields.components report.results
    ++ rows_text report.fields.components report.results report.inputs.rows)))
