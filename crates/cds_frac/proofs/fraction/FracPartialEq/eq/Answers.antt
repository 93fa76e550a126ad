use Rattle.cds_frac.proofs.LowestTerms.{fraction_eq-number}
use Rattle.cds_frac.proofs.fraction.FracPartialEq.eq.Goals as goal

pub returns-clause-one_number : goal.returns-clause-one_number
returns-clause-one_number c =
    let is = c.has_parts_of.ensures in
    fraction_eq-number c.args.self.now c.args.other.now c.has_parts_of.result is.shape.0.reduced is.shape.1.reduced is.parts
