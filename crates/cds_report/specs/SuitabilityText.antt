-- The text of the system suitability of a sequence: the lines of its checks, and the verdict of all of them. This
-- project's own format.
use Rattle.std.specs.Prelude.{ℕ, List, [], ◌∷◌, ◌++◌, Some, codes, decimal, flat_map}
use Rattle.cds_graph.specs.Results.{Results}
use Rattle.cds_graph.specs.declared.check_line.CheckLine.{CheckLine}
use Rattle.cds_book.specs.Tables.{numbered}
use Rattle.cds_rules.specs.declared.check.Check.{Check}
use Rattle.cds_rules.specs.declared.check.CheckKind.{CheckKind}
use Rattle.cds_rules.specs.declared.check.CheckKind.TheVariants as kind
use Rattle.cds_rules.specs.declared.component.Component.{Component}
use Rattle.cds_suit.specs.declared.verdict.Verdict.{Verdict}
use Rattle.cds_report.specs.Lines.{line, if_there, each_numbered}
use Rattle.cds_report.specs.Reported.{Reported}
use Rattle.cds_report.specs.Words.{check_word, component_word, row_words, value_word, verdict_word}

-- the sequence: its name and its basis
abbrev pub suitability_line : Reported → List ℕ
suitability_line report = line (codes "suitability") (report.name ∷ codes "basis" ∷ decimal report.basis ∷ [])

-- with how many decimals the value of a check is shown: 4 for a determination, else 2
abbrev pub decimals_of : CheckKind → ℕ
decimals_of kind.R2 = 4
decimals_of _ = 2

-- the words of a line of a check: the number of the check, what it looks at, its component, the row, the value and the
-- verdict
abbrev pub check_words : List Component → ℕ → Check → CheckLine → List (List ℕ)
check_words components number check held =
    decimal number
    ∷ check_word check.kind
    ∷ component_word components (Some check.component)
    ∷ row_words held.row
    ++ (value_word (decimals_of check.kind) held.value ∷ verdict_word held.verdict ∷ [])

-- a line of a check
abbrev pub check_line : List Component → ℕ → Check → CheckLine → List ℕ
check_line components number check held = line (codes "check") (check_words components number check held)

-- the lines of a check
abbrev pub check_text : List Component → Results → ℕ → Check → List ℕ
check_text components results number check =
    if_there (flat_map (check_line components number check)) (numbered results.checks number)

-- the lines of all checks
abbrev pub checks_text : List Component → Results → List Check → List ℕ
checks_text components results checks = each_numbered (check_text components results) 1 checks

-- the verdict of all checks
abbrev pub verdict_line : Verdict → List ℕ
verdict_line verdict = line (codes "verdict") (verdict_word verdict ∷ [])

-- the text of the system suitability of a sequence
unfoldable pub suitability_text : Reported → List ℕ
suitability_text report =
    suitability_line report
    ++ (checks_text report.fields.components report.results report.fields.checks
    ++ verdict_line report.results.verdict)
