use Rattle.std.proofs.Common.{◌≡◌, ◌++◌, take}
use Rattle.cds_graph.specs.Checks.{verdicts_of}
use Rattle.cds_graph.proofs.checks.add_verdicts.Given as goal

abbrev pub invariant-loop-line : goal.invariant-loop-line
invariant-loop-line l = l.verdicts.items ≡ l.fn.verdicts.items ++ verdicts_of (take l.line-index l.items)
