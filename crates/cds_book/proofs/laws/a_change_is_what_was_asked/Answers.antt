use Rattle.cds_book.proofs.PlanLaws.{command_of-planned}
use Rattle.cds_book.proofs.laws.a_change_is_what_was_asked.Goals as goal

pub returns : goal.returns
returns c = command_of-planned
