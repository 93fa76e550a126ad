use Rattle.cds_http.proofs.ItemLemmas.{AreItems-stays}
use Rattle.cds_http.proofs.laws.decided_items_stay.Goals as goal

pub returns : goal.returns
returns c = λ place bytes more continued ended decided items. AreItems-stays decided items place bytes more continued ended
