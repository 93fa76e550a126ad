use Rattle.cds_http.proofs.MessageLemmas.{Decides-unique}
use Rattle.cds_http.proofs.laws.one_answer.Goals as goal

pub returns : goal.returns
returns c = Decides-unique
