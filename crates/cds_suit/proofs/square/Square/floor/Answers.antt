use Rattle.std.proofs.lemmas.Bool.{le-leb, leb-true}
use Rattle.cds_suit.proofs.Greatest.{PassesFromBelow-reaches, reached-most}
use Rattle.cds_suit.proofs.square.Square.floor.Goals as goal

pub greatest_reached-requires-clause-falls : goal.greatest_reached-requires-clause-falls
greatest_reached-requires-clause-falls c = PassesFromBelow-reaches c.args.self.now

pub returns-clause-reached : goal.returns-clause-reached
returns-clause-reached c = leb-true _ _ c.greatest_reached.ensures.reached

pub returns-clause-last : goal.returns-clause-last
returns-clause-last c k here = c.greatest_reached.ensures.last k (reached-most c.args.self.now c.requires k here) (le-leb _ _ here)
