use Rattle.cds_calib.proofs.Reached.{PassesFromBelow-reaches, determination-is, IsDetermination-is}
use Rattle.cds_calib.proofs.points.Points.determination.Goals as goal

pub greatest_reached-requires-clause-falls : goal.greatest_reached-requires-clause-falls
greatest_reached-requires-clause-falls c = PassesFromBelow-reaches c.in_ok-spread.spread

pub returns-clause-value : goal.returns-clause-value
returns-clause-value c = determination-is c.args.self.now c.in_ok-spread.spread _ c.in_ok-spread.ensures.value c.greatest_reached.ensures.value

pub returns-clause-greatest : goal.returns-clause-greatest
returns-clause-greatest c = IsDetermination-is c.args.self.now c.in_ok-spread.spread _ c.in_ok-spread.ensures.value c.greatest_reached.ensures.reached c.greatest_reached.ensures.last
