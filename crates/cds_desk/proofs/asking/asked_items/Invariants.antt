use Rattle.std.proofs.Common.{◌≡◌, map, take}
use Rattle.cds_book.specs.Plan.{asked_of}
use Rattle.cds_desk.proofs.asking.asked_items.Given as goal

abbrev pub invariant-loop-place : goal.invariant-loop-place
invariant-loop-place l = l.asked.items ≡ map asked_of (take l.place l.rows)
