use Rattle.std.proofs.Common.{sym, ◌∙◌}
use Rattle.cds_frac.proofs.LowestTerms.{fraction_cmp-reduced}
use Rattle.cds_frac.proofs.fraction.FracOrd.cmp.Goals as goal

pub returns-clause-order : goal.returns-clause-order
returns-clause-order c =
    let shape = c.compare_number.ensures.shape in
    c.compare_number.ensures.cross_products ∙ sym (fraction_cmp-reduced c.args.self.now c.args.other.now shape.0.reduced shape.1.reduced)
