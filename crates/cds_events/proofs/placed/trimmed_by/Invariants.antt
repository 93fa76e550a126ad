use Rattle.std.proofs.Common.{◌≡◌, take, fold}
use Rattle.cds_events.specs.Placed.{trimmed}
use Rattle.cds_events.proofs.placed.trimmed_by.Given as goal

abbrev pub invariant-loop-piece : goal.invariant-loop-piece
invariant-loop-piece l = l.peak ≡ fold trimmed l.fn.peak (take l.piece-index l.pieces)
