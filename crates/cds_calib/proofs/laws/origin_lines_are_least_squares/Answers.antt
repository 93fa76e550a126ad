use Rattle.cds_calib.proofs.NormalEquations.{origin-meets}
use Rattle.cds_calib.proofs.laws.origin_lines_are_least_squares.Goals as goal

pub returns : goal.returns
returns c = origin-meets
