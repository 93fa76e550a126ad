-- Straight lines below a signal: chords, levels, and the height of the signal over a line. Levels and heights are
-- fractions over a divisor that the line alone gives, so they are stated here as whole numbers, times that divisor. This
-- project's own rule.
use Rattle.std.specs.Prelude.{ℕ, ◌-◌, ℤ, pos, ◌+ℤ◌, ◌-ℤ◌, ◌*ℤ◌}
use Rattle.cds_base.specs.declared.peak.Line.{Line}
use Rattle.cds_trace.specs.Signal.{Signal, sample_at}

-- the straight line from one sample of the signal to another
abbrev pub chord : Signal → ℕ → ℕ → Line
chord signal a b = record { from = a; from_y = sample_at signal a; to = b; to_y = sample_at signal b }

-- how many samples lie from one end of a line to the other
abbrev pub span : Line → ℕ
span line = line.to - line.from

-- the level of a line at sample i, times its span: each end counts by the distance of i from the other end
abbrev pub level_by_span : Line → ℕ → ℤ
level_by_span line i = line.from_y *ℤ pos (line.to - i) +ℤ line.to_y *ℤ pos (i - line.from)

-- the height at sample i, which is the signal minus the line, times the line's span
abbrev pub height_by_span : Signal → Line → ℕ → ℤ
height_by_span signal line i = sample_at signal i *ℤ pos (span line) -ℤ level_by_span line i
