use Rattle.std.proofs.Common.{take}
use Rattle.cds_graph.specs.Building.{after, MethodsOf}
use Rattle.cds_graph.specs.HeldGraph.{methods_shown}
use Rattle.cds_graph.proofs.methods.kept_methods.Given as goal

abbrev pub invariant-loop-place : goal.invariant-loop-place
invariant-loop-place l =
    MethodsOf (after l.source) (take l.place l.keys) (methods_shown l.nodes.items)
