-- The samples of a signal over and under a chord between two of them.
use Rattle.std.specs.Prelude.{ℕ, ◌-◌, ℤ, pos, ◌*ℤ◌, Bool, int_lt, int_le}
use Rattle.cds_base.specs.declared.peak.Line.{Line}
use Rattle.cds_trace.specs.Signal.{Signal, sample_at}
use Rattle.cds_trace.specs.Heights.{chord, span, level_by_span}

-- whether a level at sample k lies below a line
abbrev pub is_below : Line → ℕ → ℤ → Bool
is_below line k level = int_lt (level *ℤ pos (span line)) (level_by_span line k)

-- the level at sample k of the chord from sample a to sample b, times b - a
abbrev pub chord_by_span : Signal → ℕ → ℕ → ℕ → ℤ
chord_by_span signal a b k = level_by_span (chord signal a b) k

-- whether sample k does not lie under the chord from sample a to sample b
abbrev pub is_over : Signal → ℕ → ℕ → ℕ → Bool
is_over signal a b k = int_le (chord_by_span signal a b k) (sample_at signal k *ℤ pos (b - a))

-- whether the chord from sample a to sample b passes above sample k
abbrev pub is_under : Signal → ℕ → ℕ → ℕ → Bool
is_under signal a b k = is_below (chord signal a b) k (sample_at signal k)
