-- How raw peaks stand in a signal.
use Rattle.std.specs.Prelude.{◌≡◌, ℕ, ◌+◌, ◌-◌, ◌<◌, ◌≤◌, ◌≤ℤ◌, ◌<ℤ◌, List, [], ◌∷◌, length}
use Rattle.cds_base.specs.declared.peak.RawPeak.{RawPeak}
use Rattle.cds_trace.specs.Signal.{Signal, sample_at}
use Rattle.cds_trace.specs.Extremes.{first_greatest}

-- a sample that is above the one before it, and that the one behind it isn't above
pub record IsCrest (signal : Signal) (apex : ℕ) : Type 0 where
  pub rises : sample_at signal (apex - 1) <ℤ sample_at signal apex
  pub falls : sample_at signal (apex + 1) ≤ℤ sample_at signal apex

-- a raw peak that begins at this sample or behind it
pub record IsRawPeak (signal : Signal) (at : ℕ) (peak : RawPeak) : Type 0 where
  pub follows : at ≤ peak.start
  -- its apex lies strictly inside, and is the first greatest sample of its range
  pub rises : peak.start < peak.apex
  pub falls : peak.apex < peak.end
  pub apex : peak.apex ≡ first_greatest signal peak.start peak.end
  -- it ends within the trace
  pub ends : peak.end < length signal.samples

-- raw peaks in order, from this sample on: the end of one may be the start of the next
abbrev pub RawFrom : Signal → ℕ → List RawPeak → Type 0
RawFrom signal at [] = Unit {0}
RawFrom signal at (peak ∷ peaks) = IsRawPeak signal at peak × RawFrom signal peak.end peaks
