use Rattle.std.proofs.Common.{length, refl}
use Rattle.cds_suit.proofs.Sums.{difference_le, IsSquare-from}
use Rattle.cds_suit.proofs.square.Square.from_values.Goals as goal

pub overflow_sub-result : goal.overflow_sub-result
overflow_sub-result c =
    difference_le c.args.values.now (length c.args.values.now) c.sums_of-sums.result.x c.sums_of-sums.result.xx refl c.sums_of-sums.ensures.x c.sums_of-sums.ensures.xx

pub returns-clause-shape : goal.returns-clause-shape
returns-clause-shape c =
    IsSquare-from c.args.values.now (length c.args.values.now) c.sums_of-sums.result.x c.sums_of-sums.result.xx (c.requires.few, c.requires.below) refl c.if-values-lt2.false c.sums_of-sums.ensures.x c.if-sums-eq0.false c.sums_of-sums.ensures.xx c.sums_of-sums.ensures.x_fits c.sums_of-sums.ensures.xx_fits
