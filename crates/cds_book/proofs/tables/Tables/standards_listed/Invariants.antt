use Rattle.std.proofs.Common.{◌≡◌, take}
use Rattle.std.specs.List.{filter_map}
use Rattle.cds_book.specs.Held.{bindings_over}
use Rattle.cds_book.specs.Inputs.{listed_of}
use Rattle.cds_book.proofs.tables.Tables.standards_listed.Given as goal

abbrev pub invariant-loop-place : goal.invariant-loop-place
invariant-loop-place l = l.listed.items ≡ filter_map (listed_of (bindings_over l.self.state l.over)) (take l.place l.names)
