-- The checks of system suitability that compare one value of a row with a limit. This project's own rules.
use Rattle.std.specs.Prelude.{ℕ, Bool, Option, Some, None, option_map, is_some, Result, Ok, Err, pos}
use Rattle.std.specs.Ordering.{is_le, is_ge}
use Rattle.cds_base.specs.declared.limits.TheConstants.{HUNDREDTHS}
use Rattle.cds_base.specs.declared.peak.Missing.{Missing}
use Rattle.cds_rules.specs.declared.check.CheckKind.{CheckKind}
use Rattle.cds_rules.specs.declared.check.CheckKind.TheVariants.{Resolution, Tailing, Plates, SignalNoise, Retention, PeakValley, RsdArea, RsdTime, R2}
use Rattle.cds_frac.specs.Fraction.{Fraction}
use Rattle.cds_frac.specs.FractionOrder.{ratio_cmp}
use Rattle.cds_suit.specs.declared.checks.TheConstants.{ONES}
use Rattle.cds_suit.specs.declared.verdict.Verdict.{Verdict}
use Rattle.cds_suit.specs.declared.verdict.Verdict.TheVariants.{Undecided}
use Rattle.cds_suit.specs.Verdict.{verdict_of}

-- the value is at most the limit, which is stated in so many parts of one, as numbers
abbrev pub is_at_most : ℕ → Fraction → ℕ → Bool
is_at_most parts value limit = is_le (ratio_cmp value.num value.den (pos limit) parts)

-- the value is at least the limit, which is stated in so many parts of one, as numbers
abbrev pub is_at_least : ℕ → Fraction → ℕ → Bool
is_at_least parts value limit = is_ge (ratio_cmp value.num value.den (pos limit) parts)

-- when the value of a row keeps a limit, for the six kinds that compare one value of each row: tailing is to be at most the limit, the
-- others at least; the limit of plates is in ones, the others in hundredths. The other kinds look at several rows or at a line
abbrev pub keeps : CheckKind → Option (Fraction → ℕ → Bool)
keeps Resolution = Some (is_at_least HUNDREDTHS)
keeps Tailing = Some (is_at_most HUNDREDTHS)
keeps Plates = Some (is_at_least ONES)
keeps SignalNoise = Some (is_at_least HUNDREDTHS)
keeps Retention = Some (is_at_least HUNDREDTHS)
keeps PeakValley = Some (is_at_least HUNDREDTHS)
keeps RsdArea = None
keeps RsdTime = None
keeps R2 = None

-- the check compares one value of each row
abbrev pub compares_one : CheckKind → Bool
compares_one kind = is_some (keeps kind)

-- the verdict of a value, or of a missing one; none for a kind that doesn't compare one value
abbrev pub check_of : CheckKind → Result Fraction Missing → ℕ → Option Verdict
check_of kind (Ok value) limit = option_map (λ test. verdict_of (Ok (test value limit))) (keeps kind)
check_of kind (Err cause) limit = option_map (λ test. Undecided cause) (keeps kind)
