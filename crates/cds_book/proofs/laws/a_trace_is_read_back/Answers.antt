use Rattle.cds_book.proofs.ReadLaws.{trace_of-carried}
use Rattle.cds_book.proofs.laws.a_trace_is_read_back.Goals as goal
use Rattle.cds_book.specs.Plan.{applied}
use Rattle.cds_book.specs.Tables.{trace_of}

pub returns : goal.returns
unfolding applied trace_of
returns c = trace_of-carried
