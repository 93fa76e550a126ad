use Rattle.cds_codec.proofs.ChangeLaws.{one_record, record-today}
use Rattle.cds_codec.proofs.laws.each_change_has_one_record.Goals as goal

pub returns : goal.returns
returns c = record { today = record-today; one = one_record }
