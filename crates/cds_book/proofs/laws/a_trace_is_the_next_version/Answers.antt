use Rattle.cds_book.proofs.StayLaws.{trace_versions_of-carried}
use Rattle.cds_book.proofs.laws.a_trace_is_the_next_version.Goals as goal
use Rattle.cds_book.specs.Plan.{applied}
use Rattle.cds_book.specs.Tables.{trace_versions_of}

pub returns : goal.returns
unfolding applied trace_versions_of
returns c = trace_versions_of-carried
