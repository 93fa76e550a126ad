use Rattle.cds_book.proofs.KeptLaws.{IsTables-applied}
use Rattle.cds_book.proofs.laws.rules_are_kept.Goals as goal

pub returns : goal.returns
returns c = IsTables-applied
