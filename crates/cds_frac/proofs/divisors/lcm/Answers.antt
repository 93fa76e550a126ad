use Rattle.std.proofs.Common.{◌*◌, ◌/◌, arith}
use Rattle.std.proofs.Math.Nat.{le_of_dvd}
use Rattle.cds_frac.specs.Divisors.{IsLcm}
use Rattle.cds_frac.proofs.Coprime.{IsLcm-product}
use Rattle.cds_frac.proofs.divisors.lcm.Goals as goal

pub returns-then-whole-from-clause-least : goal.returns-then-whole-from-clause-least
returns-then-whole-from-clause-least c =
    let is = rw (c.from.ensures, c.from-2.ensures) at c.gcd-common.ensures.greatest in
    rw (c.from-3.ensures, c.from-4.ensures) (IsLcm-product c.args.a c.args.b c.gcd-common.result c.requires.first c.requires.second is)

pub returns-else-whole-from-clause-too_large : goal.returns-else-whole-from-clause-too_large
returns-else-whole-from-clause-too_large c m some first second =
    let is = rw (c.from.ensures, c.from-2.ensures) at c.gcd-common.ensures.greatest in
    let product : IsLcm c.args.a c.args.b (c.from-3.result / c.gcd-common.result * c.from-4.result) = rw (c.from-3.ensures, c.from-4.ensures) (IsLcm-product c.args.a c.args.b c.gcd-common.result c.requires.first c.requires.second is) in
    omega (arith, le_of_dvd some (product.2 m first second))
