use Rattle.std.proofs.Common.{◌≡◌, map, take}
use Rattle.cds_book.specs.Held.{bindings_over}
use Rattle.cds_book.specs.Inputs.{row_resolved}
use Rattle.cds_book.proofs.tables.Tables.rows_resolved.Given as goal

abbrev pub invariant-loop-place : goal.invariant-loop-place
invariant-loop-place l = l.resolved.items ≡ map (row_resolved (bindings_over l.self.state l.over)) (take l.place l.rows)
