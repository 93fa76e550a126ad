use Rattle.cds_codec.proofs.ChangeLaws.{one_change, one_format}
use Rattle.cds_codec.proofs.laws.each_record_states_one_change.Goals as goal

pub returns : goal.returns
returns c = record { change = one_change; format = one_format }
