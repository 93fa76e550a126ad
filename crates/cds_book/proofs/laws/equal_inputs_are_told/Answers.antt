use Rattle.cds_book.proofs.SameLaws.{same_inputs-Decides}
use Rattle.cds_book.proofs.laws.equal_inputs_are_told.Goals as goal

pub returns : goal.returns
returns c = same_inputs-Decides
