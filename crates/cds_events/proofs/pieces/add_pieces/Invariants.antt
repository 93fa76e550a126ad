use Rattle.std.proofs.Common.{◌≡◌, take, fold}
use Rattle.cds_events.specs.Pieces.{and_piece_of}
use Rattle.cds_events.proofs.pieces.add_pieces.Given as goal

abbrev pub invariant-loop-event : goal.invariant-loop-event
invariant-loop-event l = l.earlier.items ≡ fold (and_piece_of l.trace) l.fn.earlier.items (take l.event-index l.events)
