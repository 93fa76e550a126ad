use Rattle.std.proofs.Common.{◌≡◌, [], ◌∷◌, take}
use Rattle.std.specs.Prelude.{All}
use Rattle.cds_events.specs.Drops.{cut_all}
use Rattle.cds_events.proofs.CutLaws.{IsMarked}
use Rattle.cds_events.proofs.drops.cut_part.Given as goal

abbrev pub invariant-loop-at : goal.invariant-loop-at
invariant-loop-at g l = record {
  value : l.pieces.items ≡ cut_all l.trace (l.fn.part ∷ []) (take l.at-index l.drops);
  marked : All (IsMarked l.segments.items l.fn.part.start l.fn.part.end) l.pieces.items;
}
