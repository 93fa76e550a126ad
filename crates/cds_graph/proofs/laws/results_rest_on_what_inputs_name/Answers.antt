use Rattle.cds_graph.proofs.StayLaws.{eval-agree}
use Rattle.cds_graph.proofs.laws.results_rest_on_what_inputs_name.Goals as goal

pub returns : goal.returns
returns c = eval-agree
