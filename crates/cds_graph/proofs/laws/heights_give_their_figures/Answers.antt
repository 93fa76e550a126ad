use Rattle.cds_graph.proofs.FigureLaws.{over_noise-is, over_boundary-is}
use Rattle.cds_graph.proofs.laws.heights_give_their_figures.Goals as goal

pub returns : goal.returns
returns c = record { noise = over_noise-is; valley = over_boundary-is }
