use Rattle.std.proofs.Common.{arith}
use Rattle.cds_figures.proofs.NumberLaws.{part-le, part-lt}
use Rattle.cds_figures.proofs.widths.share.Goals as goal

pub returns-clause-most : goal.returns-clause-most
returns-clause-most c = grind (arith, part-le c.args.period c.args.part c.args.whole c.requires.within)

pub returns-clause-short : goal.returns-clause-short
returns-clause-short c = λ short some. grind (arith, part-lt c.args.period c.args.part c.args.whole short some)
