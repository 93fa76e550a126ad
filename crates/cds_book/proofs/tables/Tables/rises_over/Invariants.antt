use Rattle.std.proofs.Common.{◌≡◌, map, take}
use Rattle.cds_book.specs.Plan.{carried, inputs_differ}
use Rattle.cds_book.specs.Tables.{NamedSequence}
use Rattle.cds_book.proofs.tables.Tables.rises_over.Given as goal

abbrev pub invariant-loop-place : goal.invariant-loop-place
invariant-loop-place l = l.rises.items
    ≡ map (λ (e : NamedSequence). inputs_differ l.self.state (carried l.self.state l.change) e.name)
    (take l.place l.self.state.sequences)
