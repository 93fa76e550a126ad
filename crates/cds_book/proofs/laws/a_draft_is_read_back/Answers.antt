use Rattle.cds_book.proofs.ReadLaws.{draft_of-carried}
use Rattle.cds_book.proofs.laws.a_draft_is_read_back.Goals as goal
use Rattle.cds_book.specs.Plan.{applied}
use Rattle.cds_book.specs.Tables.{draft_of}

pub returns : goal.returns
unfolding applied draft_of
returns c = draft_of-carried
