use Rattle.cds_book.proofs.StoodLaws.{edition_of-changed}
use Rattle.cds_book.proofs.laws.an_accepted_change_raises_the_edition.Goals as goal

pub returns : goal.returns
returns c = edition_of-changed
