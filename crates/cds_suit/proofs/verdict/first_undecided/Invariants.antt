use Rattle.std.proofs.Common.{◌≡◌, find, drop}
use Rattle.cds_suit.specs.Verdict.{is_undecided}
use Rattle.cds_suit.proofs.verdict.first_undecided.Given as goal

abbrev pub invariant-loop-verdict : goal.invariant-loop-verdict
invariant-loop-verdict l = find is_undecided l.verdicts ≡ find is_undecided (drop l.verdict-index l.verdicts)
