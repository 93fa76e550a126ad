use Rattle.cds_calib.proofs.NormalEquations.{inverse-meets}
use Rattle.cds_calib.proofs.laws.inverse_lines_are_least_squares.Goals as goal

pub returns : goal.returns
returns c = inverse-meets
