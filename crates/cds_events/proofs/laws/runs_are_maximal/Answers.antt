use Rattle.cds_events.proofs.RunLaws.{runs_of-maximal}
use Rattle.cds_events.proofs.laws.runs_are_maximal.Goals as goal

pub returns : goal.returns
returns c = runs_of-maximal
