use Rattle.cds_desk.proofs.ServingLaws.{in_all}
use Rattle.cds_desk.proofs.laws.served_items_have_one_outcome.Goals as goal

pub returns : goal.returns
returns c = in_all
