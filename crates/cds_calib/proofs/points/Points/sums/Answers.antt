use Rattle.cds_calib.proofs.Kept.{IsSmall-kept}
use Rattle.cds_calib.proofs.points.Points.sums.Goals as goal

pub returns-clause-small : goal.returns-clause-small
returns-clause-small c = IsSmall-kept _ _ _ c.self.invariant
