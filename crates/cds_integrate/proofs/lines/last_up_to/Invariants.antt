use Rattle.std.proofs.Common.{◌≡◌, take}
use Rattle.cds_integrate.specs.Lines.{last_up_to}
use Rattle.cds_integrate.proofs.lines.last_up_to.Given as goal

abbrev pub invariant-loop-node : goal.invariant-loop-node
invariant-loop-node l = l.found ≡ last_up_to (take l.node-index l.nodes) l.at
