use Rattle.cds_graph.proofs.BoundLaws.{inputs-there}
use Rattle.cds_graph.proofs.laws.inputs_are_there.Goals as goal

pub returns : goal.returns
returns c = inputs-there
