use Rattle.cds_codec.specs.Record.{record_in, record_of}
use Rattle.cds_codec.proofs.ChangeLaws.{is_record, reads_back, record-today}
use Rattle.cds_codec.proofs.laws.what_is_written_reads_back.Goals as goal

pub returns : goal.returns
returns c = record {
  today = λ change stated possible. reads_back (record_of change) change stated (record-today change possible);
  each_format = λ format change stated known possible stands.
      reads_back (record_in format change) change stated (is_record format change known possible stands);
}
