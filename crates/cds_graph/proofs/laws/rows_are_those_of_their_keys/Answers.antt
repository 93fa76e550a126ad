use Rattle.cds_graph.proofs.KeptLaws.{eval-rows}
use Rattle.cds_graph.proofs.laws.rows_are_those_of_their_keys.Goals as goal

pub returns : goal.returns
returns c = eval-rows
