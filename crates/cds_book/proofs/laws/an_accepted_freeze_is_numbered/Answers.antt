use Rattle.cds_book.proofs.PlanLaws.{freeze-numbered}
use Rattle.cds_book.proofs.laws.an_accepted_freeze_is_numbered.Goals as goal

pub returns : goal.returns
returns c = freeze-numbered
