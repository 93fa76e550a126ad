use Rattle.std.proofs.Common.{None, refl}
use Rattle.cds_book.specs.declared.tables.Tables.TheInside.{Inside}
use Rattle.cds_book.proofs.RoomLaws.{IsHeld-empty}
use Rattle.cds_book.proofs.tables.Tables.new.Goals as goal

pub invariant_of-result : goal.invariant_of-result
invariant_of-result c =
    let a : Inside = record { traces = c.new.result; trace_versions = 0; samples = 0; methods = c.new-2.result; method_versions = 0; sequences = c.new-3.result; room = None } in
    IsHeld-empty a c.new.ensures.empty c.new-2.ensures.empty c.new-3.ensures.empty refl refl refl refl
