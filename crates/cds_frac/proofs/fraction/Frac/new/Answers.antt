use Rattle.std.proofs.Common.{◌≡◌, ◌<◌, ◌∙◌, ap, arith, unsigned_abs}
use Rattle.std.specs.Int.{w128}
use Rattle.std.proofs.lemmas.Int.{ints, to_z-of_z}
use Rattle.cds_frac.proofs.Coprime.{coprime_quotients}
use Rattle.cds_frac.proofs.LowestTerms.{divided_parts, quotient_pos}
use Rattle.cds_frac.proofs.fraction.Frac.new.Goals as goal

pub from_parts-requires-clause-positive : goal.from_parts-requires-clause-positive
from_parts-requires-clause-positive c =
    let some : 0 < c.unsigned_abs-whole.result = grind (arith, ints, to_z-of_z) in
    (quotient_pos c.unsigned_abs-whole.result c.gcd-common.result some c.gcd-common.ensures.greatest.1).1

pub from_parts-requires-clause-coprime : goal.from_parts-requires-clause-coprime
from_parts-requires-clause-coprime c =
    let some : 0 < c.unsigned_abs-whole.result = grind (arith, ints, to_z-of_z) in
    coprime_quotients c.unsigned_abs-size.result c.unsigned_abs-whole.result c.gcd-common.result (c.gcd-common.ensures.positive (omega arith)) c.gcd-common.ensures.greatest

pub returns : goal.returns
returns c =
    let whole : c.unsigned_abs-whole.result ≡ unsigned_abs c.args.den = c.unsigned_abs-whole.ensures.value ∙ ap unsigned_abs (to_z-of_z w128 c.args.den c.ranges.den) in
    let size : c.unsigned_abs-size.result ≡ unsigned_abs c.args.num = c.unsigned_abs-size.ensures.value ∙ ap unsigned_abs (to_z-of_z w128 c.args.num c.ranges.num) in
    let some : 0 < unsigned_abs c.args.den = grind (arith, ints) in
    divided_parts c.from_parts.result c.args.num _ (unsigned_abs c.args.den) c.gcd-common.result c.unsigned_abs-size.result c.unsigned_abs-whole.result c.from_parts.ensures (to_z-of_z w128 c.args.num c.ranges.num) size whole some c.gcd-common.ensures.greatest
