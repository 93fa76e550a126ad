-- What the reader of a text has left, as records.
use Rattle.std.specs.Prelude.{◌≡◌, ℕ, ◌+◌, true, List, [], length, Option, Some, None, IsSome}
use Rattle.std.proofs.Common.{Bor}
use Rattle.csv.specs.Reading.{Ready, default_config, is_flexible, reader_config, reader_state, reader_trim, records_from, source_of}
use Rattle.csv.specs.declared.reader.Reader.{Reader}
use Rattle.csv.specs.declared.reader.Trim.TheVariants as trim
use Rattle.csv.specs.declared.parser.State.{State}
use Rattle.cds_trace.specs.TraceText.{Fields}

-- a reader of bytes in memory
abbrev pub BytesReader : Type 0
BytesReader = Reader (Bor (List ℕ))

-- the bytes that a reader has left, if it has not failed
abbrev pub bytes_left : BytesReader → Option (List ℕ)
bytes_left reader = source_of (λ (s : Bor (List ℕ)). Some s.now) reader

-- every record of the bytes, from a state
abbrev pub rows_from : State → Option (List ℕ) → List Fields
rows_from state None = []
rows_from state (Some bytes) = records_from default_config (length bytes + 1) state bytes

-- the records that a reader has left
abbrev pub rows_left : BytesReader → List Fields
rows_left reader = rows_from (reader_state reader) (bytes_left reader)

-- a reader that reads every record as it stands
pub record IsReading (reader : BytesReader) : Type 0 where
  pub untrimmed : reader_trim reader ≡ trim.None
  pub ready : Ready reader
  pub flexible : is_flexible reader ≡ true
  pub config : reader_config reader ≡ default_config
  pub known : IsSome (bytes_left reader)
