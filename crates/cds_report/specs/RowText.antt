-- The text of a row: what was injected, its peaks, and the amounts of a sample. This project's own format.
use Rattle.std.specs.Prelude.{ℕ, List, [], ◌∷◌, ◌++◌, Option, Result, codes, decimal, option_map}
use Rattle.std.specs.Fmt.{signed_decimal}
use Rattle.cds_base.specs.declared.peak.Missing.{Missing}
use Rattle.cds_frac.specs.Fraction.{Fraction, floor_of}
use Rattle.cds_graph.specs.Figures.{plates_in, tailing_in}
use Rattle.cds_graph.specs.Looks.{row_at, period_at, amount_at}
use Rattle.cds_graph.specs.Results.{Results}
use Rattle.cds_integrate.specs.Seen.{PeakSeen, RowSeen, peaks, too_many}
use Rattle.cds_rules.specs.declared.component.Component.{Component}
use Rattle.cds_sign.specs.declared.row.Row.{Row}
use Rattle.cds_book.specs.Tables.{numbered}
use Rattle.cds_report.specs.Lines.{line, if_there, each_numbered}
use Rattle.cds_report.specs.Reported.{Reported}
use Rattle.cds_report.specs.Words.{component_word, kind_word, value_word}

-- the injection: the number of the row, its label, its kind, and its trace in the version in use
abbrev pub injection_line : ℕ → Row → List ℕ
injection_line number row =
    line (codes "row") (decimal number ∷ row.label ∷ kind_word row.kind ∷ row.trace ∷ decimal row.version ∷ [])

-- a peak: its number, its component, its time in microseconds, the first and the last sample of its range, its reported
-- area, its height rounded down, its theoretical plates and its tailing; all in a trace of this period
abbrev pub peak_line : List Component → ℕ → ℕ → PeakSeen → List ℕ
peak_line components period number peak =
    line (codes "peak")
    (decimal number
    ∷ component_word components peak.component
    ∷ decimal peak.time_us
    ∷ decimal peak.start
    ∷ decimal peak.end
    ∷ decimal peak.units
    ∷ signed_decimal (floor_of peak.height)
    ∷ value_word 2 (plates_in peak)
    ∷ value_word 2 (tailing_in period peak)
    ∷ [])

-- the peaks that are found in a row, or how many raw peaks there are, where they are too many
abbrev pub found_text : List Component → ℕ → RowSeen → List ℕ
found_text components period (peaks list) = each_numbered (peak_line components period) 1 list
found_text components period (too_many count) = line (codes "too many peaks") (decimal count ∷ [])

-- the amount of a component, or why it is missing
abbrev pub amount_line : Component → Result Fraction Missing → List ℕ
amount_line component amount = line (codes "amount") (component.name ∷ value_word 4 amount ∷ [])

-- what is found in the row of a number
abbrev pub found_in_row : List Component → Results → ℕ → List ℕ
found_in_row components results n =
    if_there (λ period. if_there (found_text components period) (row_at results n)) (period_at results n)

-- the amounts of the components in the row of a number; sample rows alone have them
abbrev pub amounts_in_row : List Component → Results → ℕ → List ℕ
amounts_in_row components results n =
    each_numbered (λ number component. if_there (amount_line component) (amount_at results n number)) 1 components

-- the text of a row, by its number
abbrev pub injection_text : List Component → Results → ℕ → Row → List ℕ
injection_text components results n row =
    injection_line n row ++ (found_in_row components results n ++ amounts_in_row components results n)

-- the text of the row of a number; none where there is no such row
unfoldable pub row_text : ℕ → Reported → Option (List ℕ)
row_text n report =
    option_map (injection_text report.fields.components report.results n) (numbered report.inputs.rows n)
