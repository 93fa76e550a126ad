use Rattle.cds_book.proofs.StayLaws.{trace_of-stays}
use Rattle.cds_book.proofs.laws.trace_versions_stay.Goals as goal
use Rattle.cds_book.specs.Plan.{applied}
use Rattle.cds_book.specs.Tables.{trace_of}

pub returns : goal.returns
unfolding applied trace_of
returns c = trace_of-stays
