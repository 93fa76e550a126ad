-- What `cds peaks` answers to the bytes of its source. This project's own format.
use Rattle.std.specs.Prelude.{ℕ, ◌++◌, List, [], codes, decimal, Option, Some, None, Result, Ok, Err, nat_lt, length}
use Rattle.std.specs.Prelude.{unwrap_or, if◌then◌else◌}
use Rattle.cds_trace.specs.Refusal.{number_of_refusal, record_of_refusal}
use Rattle.cds_trace.specs.Signal.{Signal}
use Rattle.cds_trace.specs.TraceText.{csv_trace}
use Rattle.cds_trace.specs.declared.error.TraceError.{TraceError}
use Rattle.cds_detect.specs.Classes.{Settings}
use Rattle.cds_detect.specs.Raw.{raw_peaks_of, answer_of}
use Rattle.cds_report.specs.PeaksText.{peaks_text}
use Rattle.cds_respond.specs.declared.receiving.TheConstants.{MOST_SOURCE_BYTES}
use Rattle.cds_desk.specs.declared.answer.Answer.{Answer}
use Rattle.cds_desk.specs.declared.answer.TheConstants.{TOO_MANY_BYTES}
use Rattle.cds_desk.specs.declared.status.Status.TheVariants.{Done, Refused}
use Rattle.cds_words.specs.declared.command.PeaksOptions.{PeaksOptions}

-- by what peaks are found with these options: no timed event changes anything
abbrev pub settings_of_options : PeaksOptions → Settings
settings_of_options options = record {
  bunch = options.bunch;
  own = record { at = 0; on = options.slope_on; off = options.slope_off };
  plateau = options.plateau;
  events = [];
}

-- the line of a refusal: `refused N`, and `record R` behind it where it has a record
abbrev pub refusal_line : ℕ → Option ℕ → List ℕ
refusal_line number None = codes "refused " ++ decimal number ++ codes "\n"
refusal_line number (Some at) = codes "refused " ++ decimal number ++ codes " record " ++ decimal at ++ codes "\n"

-- a refusal of this number
abbrev pub refusal : ℕ → Option ℕ → Answer
refusal number at = record { status = Refused; text = refusal_line number at }

-- the answer to a trace that is stated, or to what is wrong with it; want of memory, which no bytes state, has the
-- number 0
abbrev pub answer_to_trace : PeaksOptions → Result Signal TraceError → Answer
answer_to_trace options (Ok signal) =
    record { status = Done; text = peaks_text (answer_of (raw_peaks_of signal (settings_of_options options))) }
answer_to_trace options (Err error) = refusal (unwrap_or (number_of_refusal error) 0) (record_of_refusal error)

-- the answer to these bytes: more than a command reads are refused, whatever they are
abbrev pub peaks_answer : PeaksOptions → List ℕ → Answer
peaks_answer options bytes =
    if nat_lt MOST_SOURCE_BYTES (length bytes)
    then refusal TOO_MANY_BYTES None
    else answer_to_trace options (csv_trace bytes)
