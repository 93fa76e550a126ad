-- A period and samples as a trace.
use Rattle.std.specs.Prelude.{ℕ, ◌-◌, ◌*◌, ◌||◌, ◌==◌, not, nat_lt, if◌then◌else◌, ℤ, List, length, position, Option, Some, None, Result, Ok, Err}
use Rattle.cds_trace.specs.Signal.{Signal}
use Rattle.cds_trace.specs.TraceText.{is_sample, record_of}
use Rattle.cds_trace.specs.declared.error.TraceError.{TraceError}
use Rattle.cds_trace.specs.declared.error.TraceError.TheVariants.{TooShort, TooLong, OutOfRange, BadPeriod}
use Rattle.cds_base.specs.declared.time.TheConstants.{LAST_TIME_US}
use Rattle.cds_trace.specs.declared.trace.TheConstants.{FEWEST_SAMPLES, MOST_SAMPLES}

-- the trace of a period and samples, where the first sample that is out of range, if there is one, is at this index
abbrev pub trace_in_range : ℕ → List ℤ → Option ℕ → Result Signal TraceError
trace_in_range period samples (Some i) = Err (OutOfRange (record_of i))
trace_in_range period samples None = Ok (record { period = period; samples = samples })

-- the trace of a period and samples, or the first thing that is wrong with them
unfoldable pub given_trace : ℕ → List ℤ → Result Signal TraceError
given_trace period samples =
    if nat_lt MOST_SAMPLES (length samples) then Err TooLong
    else if nat_lt (length samples) FEWEST_SAMPLES then Err TooShort
    else if (period == 0) || nat_lt LAST_TIME_US ((length samples - 1) * period) then Err BadPeriod
    else trace_in_range period samples (position (λ sample. not (is_sample sample)) samples)
