use Rattle.cds_calib.proofs.NormalEquations.{equal-meets}
use Rattle.cds_calib.proofs.laws.equal_lines_are_least_squares.Goals as goal

pub returns : goal.returns
returns c = equal-meets
