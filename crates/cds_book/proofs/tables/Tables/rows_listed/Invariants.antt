use Rattle.std.proofs.Common.{◌≡◌, take}
use Rattle.std.specs.List.{filter_map}
use Rattle.cds_book.specs.Held.{bindings_over}
use Rattle.cds_book.specs.Inputs.{row_listed}
use Rattle.cds_book.proofs.tables.Tables.rows_listed.Given as goal

abbrev pub invariant-loop-place : goal.invariant-loop-place
invariant-loop-place l = l.listed.items ≡ filter_map (row_listed (bindings_over l.self.state l.over)) (take l.place l.rows)
