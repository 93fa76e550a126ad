use Rattle.cds_http.proofs.ItemLemmas.{AreItems-unique}
use Rattle.cds_http.proofs.laws.one_list_of_items.Goals as goal

pub returns : goal.returns
returns c = λ place bytes continued ended items others. AreItems-unique items others place bytes continued ended
