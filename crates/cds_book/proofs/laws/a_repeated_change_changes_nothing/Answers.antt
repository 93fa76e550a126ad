use Rattle.cds_book.proofs.AgainLaws.{planned-again}
use Rattle.cds_book.proofs.laws.a_repeated_change_changes_nothing.Goals as goal

pub returns : goal.returns
returns c = planned-again
