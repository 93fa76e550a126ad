use Rattle.cds_book.proofs.StayLaws.{method_of-stays}
use Rattle.cds_book.proofs.laws.method_versions_stay.Goals as goal
use Rattle.cds_book.specs.Plan.{applied}
use Rattle.cds_book.specs.Tables.{method_of}

pub returns : goal.returns
unfolding applied method_of
returns c = method_of-stays
