-- The period while a text is read: it is known once the second record behind the header is.
use Rattle.std.specs.Prelude.{ℕ, ◌==◌, if◌then◌else◌}
use Rattle.cds_trace.specs.TraceText.{Fields, time_of}

-- the period so far, once the record of the sample of index i is read
abbrev pub period_at : ℕ → ℕ → Fields → ℕ
period_at period i fields = if i == 1 then time_of fields else period
