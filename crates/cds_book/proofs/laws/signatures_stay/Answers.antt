use Rattle.cds_book.proofs.StoodLaws.{signed_of-stays}
use Rattle.cds_book.proofs.laws.signatures_stay.Goals as goal

pub returns : goal.returns
returns c = signed_of-stays
