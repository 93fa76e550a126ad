-- A detector trace: the samples of a signal, one in each period from the time 0 on, and its limits. This
-- project's own.
use Rattle.std.specs.Prelude.{ℕ, ◌-◌, ◌*◌, ◌≤◌, ℤ, pos, neg_ℤ, ◌+ℤ◌, ◌≤ℤ◌, List, All, fold, get_or, length, slice_range}
use Rattle.cds_base.specs.declared.time.TheConstants.{LAST_TIME_US}
use Rattle.cds_trace.specs.declared.trace.TheConstants.{FEWEST_SAMPLES, GREATEST_SAMPLE, MOST_SAMPLES}

-- the time from one sample to the next in microseconds, and the samples in the order of their times
pub record Signal : Type 0 where
  pub period : ℕ
  pub samples : List ℤ

-- the sample of index i, counted from 0
abbrev pub sample_at : Signal → ℕ → ℤ
sample_at signal i = get_or signal.samples i (pos 0)

-- the sum of samples
abbrev pub total : List ℤ → ℤ
total samples = fold ◌+ℤ◌ (pos 0) samples

-- the sum of the samples of index i up to j - 1
abbrev pub sum_between : Signal → ℕ → ℕ → ℤ
sum_between signal i j = total (slice_range signal.samples i j)

-- a number that a sample may be: at most 100,000,000 in absolute value
pub record IsSample (sample : ℤ) : Type 0 where
  pub least : neg_ℤ GREATEST_SAMPLE ≤ℤ sample
  pub greatest : sample ≤ℤ GREATEST_SAMPLE

-- a signal that keeps the limits of a trace
pub record IsTrace (signal : Signal) : Type 0 where
  -- it has at least 2 samples, and at most 400,000
  pub enough : FEWEST_SAMPLES ≤ length signal.samples
  pub few : length signal.samples ≤ MOST_SAMPLES
  -- each sample is in its range
  pub samples : All IsSample signal.samples
  -- its period is at least 1 microsecond
  pub period : 1 ≤ signal.period
  -- the time of its last sample is at most 14,400,000,000 microseconds
  pub last : (length signal.samples - 1) * signal.period ≤ LAST_TIME_US
