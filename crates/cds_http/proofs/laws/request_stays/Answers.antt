use Rattle.cds_http.proofs.MessageLemmas.{Decides-request_stays}
use Rattle.cds_http.proofs.laws.request_stays.Goals as goal

pub returns : goal.returns
returns c = Decides-request_stays
