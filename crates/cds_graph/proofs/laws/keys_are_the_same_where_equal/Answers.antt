use Rattle.cds_graph.proofs.KeyLaws.{same_row_key-Decides, same_noise_key-Decides}
use Rattle.cds_graph.proofs.laws.keys_are_the_same_where_equal.Goals as goal

pub returns : goal.returns
returns c = record { rows = same_row_key-Decides; noises = same_noise_key-Decides }
