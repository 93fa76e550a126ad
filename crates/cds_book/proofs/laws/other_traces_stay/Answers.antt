use Rattle.cds_book.proofs.OtherLaws.{other_traces}
use Rattle.cds_book.proofs.laws.other_traces_stay.Goals as goal
use Rattle.cds_book.specs.Plan.{applied}
use Rattle.cds_book.specs.Tables.{signals_of}

pub returns : goal.returns
unfolding applied signals_of
returns c = other_traces
