-- Raw peaks where they stand among the forced pieces. This project's own rule.
use Rattle.std.specs.Prelude.{ℕ, ◌&&◌, Bool, true, false, List, map, Option, Some, None, min, max, nat_lt, nat_le}
use Rattle.std.specs.Prelude.{if◌then◌else◌}
use Rattle.std.specs.List.{fold, filter, find}
use Rattle.cds_base.specs.declared.peak.RawPeak.{RawPeak}
use Rattle.cds_events.specs.Pieces.{Piece}

-- a raw peak where it stands among the forced pieces: the samples at which it starts, has its apex and ends, and
-- whether it belongs to a forced piece
pub record Placed : Type 0 where
  pub start : ℕ
  pub apex : ℕ
  pub end : ℕ
  pub forced : Bool

-- a raw peak belongs to a forced piece: its apex lies strictly inside
abbrev pub belongs : RawPeak → Piece → Bool
belongs peak piece = nat_lt piece.start peak.apex && nat_lt peak.apex piece.end

-- what a forced piece leaves of a raw peak outside of it: an end behind the piece's start is lowered to that start
-- where the apex doesn't lie behind it, and a start before the piece's end is raised to that end where the apex doesn't
-- lie before it
abbrev pub trimmed : RawPeak → Piece → RawPeak
trimmed peak piece = record {
  start = if nat_le piece.end peak.apex then max peak.start piece.end else peak.start;
  apex = peak.apex;
  end = if nat_le peak.apex piece.start then min peak.end piece.start else peak.end;
}

-- a raw peak over the range of the piece that it belongs to, or over its own range
abbrev pub over_range : Option Piece → RawPeak → Placed
over_range (Some piece) peak = record { start = piece.start; apex = peak.apex; end = piece.end; forced = true }
over_range None peak = record { start = peak.start; apex = peak.apex; end = peak.end; forced = false }

-- a raw peak among the forced pieces: over the range of the piece that it belongs to, or, where it belongs to none,
-- over what they all leave of it
abbrev pub place : List Piece → RawPeak → Placed
place pieces peak = over_range (find (belongs peak) pieces) (fold trimmed peak pieces)

-- the apex lies strictly between the ends
abbrev pub is_peak : Placed → Bool
is_peak peak = nat_lt peak.start peak.apex && nat_lt peak.apex peak.end

-- the raw peaks among the forced pieces; one whose apex is then its first or last sample is no peak, and left out
abbrev pub placed_peaks : List Piece → List RawPeak → List Placed
placed_peaks pieces raw = filter is_peak (map (place pieces) raw)
