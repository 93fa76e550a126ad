-- The text that is written of a trace: the header, and a line for each sample.
use Rattle.std.specs.Prelude.{ℕ, ◌+◌, ◌*◌, ℤ, List, [], ◌∷◌, ◌++◌, codes, decimal}
use Rattle.std.specs.Fmt.{signed_decimal}
use Rattle.cds_trace.specs.Signal.{Signal}

-- a time in microseconds, a comma, a sample and a line feed, the numbers without leading zeros or blanks
abbrev pub line_of : ℕ → ℤ → List ℕ
line_of time sample = decimal time ++ (44 ∷ (signed_decimal sample ++ (10 ∷ [])))

-- the lines of samples, the first one of index i
unfoldable pub lines_of : ℕ → ℕ → List ℤ → List ℕ
lines_of period i [] = []
lines_of period i (sample ∷ rest) = line_of (i * period) sample ++ lines_of period (i + 1) rest

-- the text of a trace
abbrev pub csv_text : Signal → List ℕ
csv_text signal = codes "time_us,signal\n" ++ lines_of signal.period 0 signal.samples
