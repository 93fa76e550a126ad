-- The numbers by which the refusals of a trace are told.
use Rattle.std.specs.Prelude.{ℕ, Option, Some, None}
use Rattle.cds_trace.specs.declared.error.TraceError.{TraceError}
use Rattle.cds_trace.specs.declared.error.TraceError.TheVariants.{BadCsv, BadHeader, NotNumber, Uneven, TooShort, TooLong, OutOfRange, BadPeriod, NoMemory}

-- the number of a refusal; want of memory is none
abbrev pub number_of_refusal : TraceError → Option ℕ
number_of_refusal (BadCsv r) = Some 1
number_of_refusal BadHeader = Some 2
number_of_refusal (NotNumber r) = Some 3
number_of_refusal (Uneven r) = Some 4
number_of_refusal TooShort = Some 5
number_of_refusal TooLong = Some 6
number_of_refusal (OutOfRange r) = Some 7
number_of_refusal BadPeriod = Some 8
number_of_refusal NoMemory = None

-- the number of the record at fault, if there is one
abbrev pub record_of_refusal : TraceError → Option ℕ
record_of_refusal (BadCsv r) = Some r
record_of_refusal BadHeader = None
record_of_refusal (NotNumber r) = Some r
record_of_refusal (Uneven r) = Some r
record_of_refusal TooShort = None
record_of_refusal TooLong = None
record_of_refusal (OutOfRange r) = Some r
record_of_refusal BadPeriod = None
record_of_refusal NoMemory = None
