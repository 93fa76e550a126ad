use Rattle.cds_http.proofs.MessageLemmas.{Decides-continue_once}
use Rattle.cds_http.proofs.laws.continue_comes_once.Goals as goal

pub returns : goal.returns
returns c = Decides-continue_once
