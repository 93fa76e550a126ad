use Rattle.cds_desk.proofs.SignLaws.{sign_read_back}
use Rattle.cds_desk.proofs.laws.a_made_signature_is_read_back.Goals as goal

pub returns : goal.returns
returns c = sign_read_back
