use Rattle.cds_book.proofs.StayLaws.{method_versions_of-carried}
use Rattle.cds_book.proofs.laws.a_freeze_makes_the_version_named.Goals as goal
use Rattle.cds_book.specs.Plan.{applied}
use Rattle.cds_book.specs.Tables.{method_versions_of}

pub returns : goal.returns
unfolding applied method_versions_of
returns c = method_versions_of-carried
