-- The noise that signals are compared with: that of the first blank row, in the window that the method states. A blank
-- with too many raw peaks has its noise all the same. This project's own.
use Rattle.std.specs.Prelude.{ℕ, Option, find, ok_or, option_map, Result}
use Rattle.std.specs.Option.{option_and_then}
use Rattle.cds_base.specs.Answers.{◌>>=◌}
use Rattle.cds_base.specs.declared.peak.Missing.{Missing}
use Rattle.cds_base.specs.declared.peak.Missing.TheVariants.{NoBlank, NoNoise}
use Rattle.cds_rules.specs.Fields.{Fields}
use Rattle.cds_figures.specs.Noise.{noise_of}
use Rattle.cds_graph.specs.Recorded.{RecordedRow, RecordedSequence}
use Rattle.cds_graph.specs.Rows.{is_blank}

-- a window of time, in milliseconds
pub record NoiseWindow : Type 0 where
  pub from_ms : ℕ
  pub to_ms : ℕ

-- the noise window that a method states, if it states one
abbrev pub window_of : Fields → Option NoiseWindow
window_of fields =
    option_and_then (λ from. option_map (λ to. record { from_ms = from; to_ms = to }) fields.noise_to_ms)
    fields.noise_from_ms

-- the noise of a sequence, or why it has none: no blank row; no window, fewer than two samples in it, or all alike
unfoldable pub noise_in : RecordedSequence → Result ℕ Missing
noise_in sequence = do
  blank ← ok_or (find (λ (r : RecordedRow). is_blank r.row.kind) sequence.rows) NoBlank
  window ← ok_or (window_of sequence.fields) NoNoise
  ok_or (noise_of blank.signal window.from_ms window.to_ms) NoNoise
