-- The words of the report texts. This project's own.
use Rattle.std.specs.Prelude.{ℕ, Bool, true, false, List, [], ◌∷◌, Option, Some, None, option_map, unwrap_or, codes}
use Rattle.std.specs.Prelude.{decimal, Result, Ok, Err}
use Rattle.std.specs.Option.{option_and_then}
use Rattle.cds_base.specs.declared.peak.Missing.{Missing}
use Rattle.cds_base.specs.declared.peak.Missing.TheVariants as missing
use Rattle.cds_frac.specs.Decimals.{decimal_text}
use Rattle.cds_frac.specs.Fraction.{Fraction}
use Rattle.cds_rules.specs.declared.check.CheckKind.{CheckKind}
use Rattle.cds_rules.specs.declared.check.CheckKind.TheVariants as check
use Rattle.cds_rules.specs.declared.component.Component.{Component}
use Rattle.cds_sign.specs.declared.row.RowKind.{RowKind}
use Rattle.cds_sign.specs.declared.row.RowKind.TheVariants as kind
use Rattle.cds_suit.specs.declared.verdict.Verdict.{Verdict}
use Rattle.cds_suit.specs.declared.verdict.Verdict.TheVariants as verdict
use Rattle.cds_book.specs.Tables.{numbered}

-- the word for why a value is missing
abbrev pub missing_word : Missing → List ℕ
missing_word missing.NoPeak = codes "NoPeak"
missing_word missing.WidthCut = codes "WidthCut"
missing_word missing.NoNoise = codes "NoNoise"
missing_word missing.NoDeadTime = codes "NoDeadTime"
missing_word missing.NoBlank = codes "NoBlank"
missing_word missing.TooFew = codes "TooFew"
missing_word missing.NotRising = codes "NotRising"
missing_word missing.Unfit = codes "Unfit"
missing_word missing.TooManyPeaks = codes "TooManyPeaks"
missing_word missing.ZeroSum = codes "ZeroSum"
missing_word missing.NoValley = codes "NoValley"

-- a value with so many decimals, or the word for why it is missing
abbrev pub value_word : ℕ → Result Fraction Missing → List ℕ
value_word decimals (Ok value) = decimal_text value decimals
value_word decimals (Err cause) = missing_word cause

-- what a row is injected for
abbrev pub kind_word : RowKind → List ℕ
kind_word kind.Blank = codes "blank"
kind_word kind.Standard = codes "standard"
kind_word kind.Replicate = codes "replicate"
kind_word kind.Sample = codes "sample"

-- whether a standard gives points
abbrev pub used_word : Bool → List ℕ
used_word true = codes "used"
used_word false = codes "unused"

-- what a check looks at
abbrev pub check_word : CheckKind → List ℕ
check_word check.Resolution = codes "resolution"
check_word check.Tailing = codes "tailing"
check_word check.Plates = codes "plates"
check_word check.SignalNoise = codes "signal_noise"
check_word check.Retention = codes "retention"
check_word check.PeakValley = codes "peak_valley"
check_word check.RsdArea = codes "rsd_area"
check_word check.RsdTime = codes "rsd_time"
check_word check.R2 = codes "r2"

-- what a check comes to; the cause stands at the value, or at the first line that is undecided
abbrev pub verdict_word : Verdict → List ℕ
verdict_word verdict.Pass = codes "Pass"
verdict_word verdict.Fail = codes "Fail"
verdict_word (verdict.Undecided cause) = codes "Undecided"

-- the name of the component of a number, and a hyphen where there is none
abbrev pub component_word : List Component → Option ℕ → List ℕ
component_word components number =
    unwrap_or (option_map (λ (c : Component). c.name) (option_and_then (λ n. numbered components n) number)) (codes "-")

-- of which row a line is: that of its number, or all of them
abbrev pub row_words : Option ℕ → List (List ℕ)
row_words (Some number) = codes "row" ∷ decimal number ∷ []
row_words None = codes "all" ∷ []
