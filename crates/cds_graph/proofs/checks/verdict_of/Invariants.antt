use Rattle.std.proofs.Common.{◌≡◌, take}
use Rattle.std.specs.List.{flat_map}
use Rattle.cds_graph.specs.Checks.{verdicts_of}
use Rattle.cds_graph.proofs.checks.verdict_of.Given as goal

abbrev pub invariant-loop-lines : goal.invariant-loop-lines
invariant-loop-lines l = l.verdicts.items ≡ flat_map verdicts_of (take l.lines-index l.checks)
