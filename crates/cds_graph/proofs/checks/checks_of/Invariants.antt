use Rattle.std.proofs.Common.{◌≡◌, map, take}
use Rattle.cds_graph.specs.Checks.{lines_of}
use Rattle.cds_graph.specs.Held.{found_shown}
use Rattle.cds_graph.proofs.checks.checks_of.Given as goal

abbrev pub invariant-loop-check : goal.invariant-loop-check
invariant-loop-check l = l.lines.items ≡ map (lines_of (found_shown l.found)) (take l.check-index l.checks)
