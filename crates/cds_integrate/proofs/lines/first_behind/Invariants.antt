use Rattle.std.proofs.Common.{◌≡◌, drop}
use Rattle.cds_integrate.specs.Lines.{first_behind}
use Rattle.cds_integrate.proofs.lines.first_behind.Given as goal

abbrev pub invariant-loop-node : goal.invariant-loop-node
invariant-loop-node l = first_behind (drop l.node-index l.nodes) l.at ≡ first_behind l.nodes l.at
