use Rattle.std.proofs.Common.{◌*◌, ◌^◌, ◌<◌, arith}
use Rattle.std.proofs.lemmas.Nat.{mul-lt}
use Rattle.cds_suit.proofs.square.squared.Goals as goal

pub returns-clause-fits : goal.returns-clause-fits
returns-clause-fits c =
    let fits = c.ranges.q in
    let square : c.from.result * c.from-2.result < 2 ^ 32 * 2 ^ 32 =
    mul-lt c.from.result c.from-2.result (2 ^ 32) (2 ^ 32) (let e = c.from.ensures in omega arith) (let e = c.from-2.ensures in omega arith) in
    omega arith
