use Rattle.std.proofs.Common.{◌≡◌, false, take}
use Rattle.std.specs.List.{list_any}
use Rattle.cds_book.specs.Reach.{listed_reached}
use Rattle.cds_book.proofs.tables.Tables.are_listed_reached.Given as goal

abbrev pub invariant-loop-place : goal.invariant-loop-place
invariant-loop-place l = list_any (listed_reached l.self.state l.change) (take l.place l.names) ≡ false
