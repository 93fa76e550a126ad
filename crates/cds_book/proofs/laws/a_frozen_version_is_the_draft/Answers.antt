use Rattle.cds_book.proofs.ReadLaws.{method_of-carried}
use Rattle.cds_book.proofs.laws.a_frozen_version_is_the_draft.Goals as goal
use Rattle.cds_book.specs.Plan.{applied}
use Rattle.cds_book.specs.Tables.{method_of}

pub returns : goal.returns
unfolding applied method_of
returns c = method_of-carried
