-- Forced baselines: the pieces of a trace over which an event forces one straight baseline. This project's own rule.
use Rattle.std.specs.Prelude.{ℕ, ◌*◌, ◌/◌, ◌-◌, ◌&&◌, Bool, List, [], ◌∷◌, ◌++◌, Option, Some, None, length, min}
use Rattle.std.specs.Prelude.{nat_lt, if◌then◌else◌}
use Rattle.std.specs.List.{fold, list_any}
use Rattle.cds_base.specs.declared.time.TheConstants.{MILLISECOND_US}
use Rattle.cds_base.specs.declared.event.Event.{Event}
use Rattle.cds_base.specs.declared.event.Event.TheVariants.{Inhibit, Valley, Drop, Baseline, Slope, Skim}
use Rattle.cds_trace.specs.Signal.{Signal}

-- a piece of the trace: the samples at its two ends
pub record Piece : Type 0 where
  pub start : ℕ
  pub end : ℕ

-- the last sample that doesn't lie behind a time, which is in milliseconds; the period is in microseconds
abbrev pub sample_of_time : ℕ → ℕ → ℕ
sample_of_time period ms = MILLISECOND_US * ms / period

-- the piece from one time to another, or to the trace's last sample; none where that doesn't lie behind its start
abbrev pub piece_between : Signal → ℕ → ℕ → Option Piece
piece_between signal from to =
    let start = sample_of_time signal.period from in
    let end = min (sample_of_time signal.period to) (length signal.samples - 1) in
    if nat_lt start end then Some (record { start = start; end = end }) else None

-- the piece of a baseline event
abbrev pub piece_of : Signal → Event → Option Piece
piece_of signal (Inhibit from to) = None
piece_of signal (Valley from to) = None
piece_of signal (Drop at) = None
piece_of signal (Baseline from to) = piece_between signal from to
piece_of signal (Slope at on off) = None
piece_of signal (Skim from to) = None

-- two pieces share more than an end
abbrev pub overlaps : Piece → Piece → Bool
overlaps a b = nat_lt a.start b.end && nat_lt b.start a.end

-- the pieces with effect so far, and one more where it shares at most an end with each of them
abbrev pub and_piece : List Piece → Option Piece → List Piece
and_piece earlier None = earlier
and_piece earlier (Some piece) = if list_any (overlaps piece) earlier then earlier else earlier ++ piece ∷ []

-- the same of the piece of an event
abbrev pub and_piece_of : Signal → List Piece → Event → List Piece
and_piece_of signal earlier event = and_piece earlier (piece_of signal event)

-- the forced pieces with effect, in the order of their events: each that shares at most an end with each earlier one
-- that has effect
abbrev pub pieces_of : Signal → List Event → List Piece
pieces_of signal events = fold (and_piece_of signal) [] events
