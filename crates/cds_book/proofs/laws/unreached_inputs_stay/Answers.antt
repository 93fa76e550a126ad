use Rattle.cds_book.proofs.ReachLaws.{inputs_of-unreached}
use Rattle.cds_book.proofs.laws.unreached_inputs_stay.Goals as goal

pub returns : goal.returns
returns c = inputs_of-unreached
