use Rattle.std.proofs.Common.{◌≡◌, ℕ, List, map, take}
use Rattle.cds_base.specs.declared.named.Named.{Named}
use Rattle.cds_graph.specs.Building.{names_of}
use Rattle.cds_graph.proofs.source.Source.names_before.Given as goal

abbrev pub invariant-loop-place : goal.invariant-loop-place
invariant-loop-place l =
    map (λ e. e.name) l.list.entries.items ≡ take l.place (names_of l.self.tables.now.state)
