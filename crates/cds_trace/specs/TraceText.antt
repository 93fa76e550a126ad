-- The text of a trace: records of two fields, a time in microseconds and a sample, behind a header. The first
-- record that breaks a rule decides, and then the first rule in the order that is stated here. This project's own.
use Rattle.std.specs.Prelude.{ℕ, ◌+◌, ◌*◌, Bool, false, not, ◌&&◌, ◌||◌, ◌==◌, nat_le, nat_lt, nat_eq, if◌then◌else◌, ℤ, pos, negsuc, neg_ℤ, int_le, List, [], ◌∷◌, length, Option, Some, None, Result, Ok, Err, codes}
use Rattle.std.specs.Cmp.Lexicographic.{pointwise}
use Rattle.csv.specs.Reading.{default_config, records, strip_bom}
use Rattle.cds_trace.specs.Number.{number_of, without_blanks}
use Rattle.cds_trace.specs.Signal.{Signal}
use Rattle.cds_trace.specs.declared.error.TraceError.{TraceError}
use Rattle.cds_trace.specs.declared.error.TraceError.TheVariants.{BadCsv, BadHeader, NotNumber, Uneven, TooShort, TooLong, OutOfRange}
use Rattle.cds_base.specs.declared.time.TheConstants.{LAST_TIME_US}
use Rattle.cds_trace.specs.declared.trace.TheConstants.{FEWEST_SAMPLES, GREATEST_SAMPLE, MOST_SAMPLES}

-- a record: the bytes of each of its fields
abbrev pub Fields : Type 0
Fields = List (List ℕ)

-- the number of the record that states the sample of index i: the header is record 1
abbrev pub record_of : ℕ → ℕ
record_of i = i + 2

-- a field that is this word, but for blanks at its ends
abbrev pub is_word : List ℕ → List ℕ → Bool
is_word word field = pointwise nat_eq (without_blanks field) word

-- the same of a field that may not be there
abbrev pub is_word_at : List ℕ → Option (List ℕ) → Bool
is_word_at word None = false
is_word_at word (Some field) = is_word word field

-- the two fields `time_us` and `signal`
abbrev pub is_header : Fields → Bool
is_header [] = false
is_header (time ∷ []) = false
is_header (time ∷ signal ∷ []) = is_word (codes "time_us") time && is_word (codes "signal") signal
is_header (time ∷ signal ∷ more ∷ rest) = false

-- a time within the limits of a trace
abbrev pub is_time : ℤ → Bool
is_time time = int_le (pos 0) time && int_le time (pos LAST_TIME_US)

-- a sample within the limits of a trace
abbrev pub is_sample : ℤ → Bool
is_sample sample = int_le (neg_ℤ GREATEST_SAMPLE) sample && int_le sample GREATEST_SAMPLE

-- the time of the sample of index i is i periods, and the period, which the second sample gives, is not 0
abbrev pub is_expected : ℕ → ℕ → ℤ → Bool
is_expected period i (pos time) = (time == i * period) && ((i == 0) || nat_le 1 period)
is_expected period i (negsuc time) = false

-- the sample that a time and a sample state, or what is wrong with them
abbrev pub sample_of_numbers : ℕ → ℕ → Option ℤ → Option ℤ → Result ℤ TraceError
sample_of_numbers period i None sample = Err (NotNumber (record_of i))
sample_of_numbers period i (Some time) None = Err (NotNumber (record_of i))
sample_of_numbers period i (Some time) (Some sample) =
    if not (is_time time && is_sample sample) then Err (OutOfRange (record_of i))
    else if not (is_expected period i time) then Err (Uneven (record_of i))
    else Ok sample

-- the sample that the fields state, or what is wrong with them
abbrev pub sample_of_fields : ℕ → ℕ → Fields → Result ℤ TraceError
sample_of_fields period i [] = Err (BadCsv (record_of i))
sample_of_fields period i (time ∷ []) = Err (BadCsv (record_of i))
sample_of_fields period i (time ∷ sample ∷ []) = sample_of_numbers period i (number_of time) (number_of sample)
sample_of_fields period i (time ∷ sample ∷ more ∷ rest) = Err (BadCsv (record_of i))

-- the sample of index i that a record states under a period, or what is wrong with the record
unfoldable pub sample_of : ℕ → ℕ → Fields → Result ℤ TraceError
sample_of period i fields = if nat_le MOST_SAMPLES i then Err TooLong else sample_of_fields period i fields

-- a sample before more samples, where nothing is wrong with it or with them; what is wrong with it comes first
abbrev pub sample_before : Result ℤ TraceError → Result (List ℤ) TraceError → Result (List ℤ) TraceError
sample_before (Err e) more = Err e
sample_before (Ok sample) (Err e) = Err e
sample_before (Ok sample) (Ok samples) = Ok (sample ∷ samples)

-- the samples that records state under a period, the first one at index i, or what is wrong with the first record
-- with which something is wrong
unfoldable pub samples_of : ℕ → ℕ → List Fields → Result (List ℤ) TraceError
samples_of period i [] = Ok []
samples_of period i (fields ∷ rest) = sample_before (sample_of period i fields) (samples_of period (i + 1) rest)

-- a number as a time in microseconds, 0 where there is none
abbrev pub time_in_us : Option ℤ → ℕ
time_in_us None = 0
time_in_us (Some (pos time)) = time
time_in_us (Some (negsuc time)) = 0

-- the time that a record states, 0 where it states none
abbrev pub time_of : Fields → ℕ
time_of [] = 0
time_of (time ∷ rest) = time_in_us (number_of time)

-- the time of the first of these records, 0 where there is none
abbrev pub first_time : List Fields → ℕ
first_time [] = 0
first_time (fields ∷ rest) = time_of fields

-- the period: the time of the second record behind the header, 0 where there is none
abbrev pub period_of : List Fields → ℕ
period_of [] = 0
period_of (fields ∷ rest) = first_time rest

-- the trace of these samples, of which there have to be two
abbrev pub trace_of_samples : ℕ → Result (List ℤ) TraceError → Result Signal TraceError
trace_of_samples period (Err e) = Err e
trace_of_samples period (Ok samples) =
    if nat_lt (length samples) FEWEST_SAMPLES then Err TooShort else Ok (record { period = period; samples = samples })

-- the trace that the records behind the header state, or what is wrong with them
abbrev pub trace_of_rows : List Fields → Result Signal TraceError
trace_of_rows rows = trace_of_samples (period_of rows) (samples_of (period_of rows) 0 rows)

-- the trace that the records state, or what is wrong with them
abbrev pub trace_of_records : List Fields → Result Signal TraceError
trace_of_records [] = Err BadHeader
trace_of_records (header ∷ rows) = if is_header header then trace_of_rows rows else Err BadHeader

-- the trace that the bytes state as CSV, behind a byte order mark if there is one, or what is wrong with them
unfoldable pub csv_trace : List ℕ → Result Signal TraceError
csv_trace bytes = trace_of_records (records default_config (strip_bom bytes))
