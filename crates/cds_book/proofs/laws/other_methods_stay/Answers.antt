use Rattle.cds_book.proofs.OtherLaws.{other_methods}
use Rattle.cds_book.proofs.laws.other_methods_stay.Goals as goal
use Rattle.cds_book.specs.Plan.{applied}
use Rattle.cds_book.specs.Tables.{draft_of, texts_of}

pub returns : goal.returns
unfolding applied draft_of texts_of
returns c = other_methods
