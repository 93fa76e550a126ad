-- The verdict of a test, and the verdict of several. This project's own rules.
use Rattle.std.specs.Prelude.{Bool, true, false, if◌then◌else◌, List, Result, Ok, Err, find, unwrap_or}
use Rattle.std.specs.List.{list_any}
use Rattle.cds_base.specs.declared.peak.Missing.{Missing}
use Rattle.cds_suit.specs.declared.verdict.Verdict.{Verdict}
use Rattle.cds_suit.specs.declared.verdict.Verdict.TheVariants.{Pass, Fail, Undecided}

-- Pass where the test holds, Fail where it doesn't, and Undecided with the cause where a value is missing
abbrev pub verdict_of : Result Bool Missing → Verdict
verdict_of (Ok true) = Pass
verdict_of (Ok false) = Fail
verdict_of (Err cause) = Undecided cause

-- the verdict is Fail
abbrev pub is_fail : Verdict → Bool
is_fail Pass = false
is_fail Fail = true
is_fail (Undecided cause) = false

-- the verdict is Undecided, for whatever cause
abbrev pub is_undecided : Verdict → Bool
is_undecided Pass = false
is_undecided Fail = false
is_undecided (Undecided cause) = true

-- the verdict of several: Fail where one is Fail, else the first undecided one, else Pass
abbrev pub overall_of : List Verdict → Verdict
overall_of verdicts = if list_any is_fail verdicts then Fail else unwrap_or (find is_undecided verdicts) Pass

-- what two verdicts come to, the first one judged first
abbrev pub joined : Verdict → Verdict → Verdict
joined Pass next = next
joined Fail next = Fail
joined (Undecided cause) Fail = Fail
joined (Undecided cause) Pass = Undecided cause
joined (Undecided cause) (Undecided other) = Undecided cause
