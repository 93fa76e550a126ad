use Rattle.std.proofs.Common.{◌≡◌, take}
use Rattle.cds_events.specs.Segments.{cut_each_by}
use Rattle.cds_events.proofs.drops.cut_each.Given as goal

abbrev pub invariant-loop-part : goal.invariant-loop-part
invariant-loop-part l = l.pieces.items ≡ cut_each_by l.segments (take l.part-index l.parts) l.at
