use Rattle.std.proofs.Common.{◌<◌, ◌/◌, ◌^◌, arith, sym, subst, subst₂}
use Rattle.cds_frac.specs.Fraction.{IsProduct}
use Rattle.cds_frac.proofs.LowestTerms.{IsProduct-cancelled, same_parts, quotient_pos}
use Rattle.cds_frac.proofs.fraction.product_parts.Goals as goal

pub nonzero_div-size : goal.nonzero_div-size
nonzero_div-size c =
    let left : 0 < c.args.v / c.gcd-common.result = (quotient_pos c.args.v c.gcd-common.result c.requires.positive.1 c.gcd-common.ensures.greatest.1).1 in
    c.gcd-above.ensures.positive (omega arith)

pub nonzero_div-v-2 : goal.nonzero_div-v-2
nonzero_div-v-2 c =
    let left : 0 < c.args.v / c.gcd-common.result = (quotient_pos c.args.v c.gcd-common.result c.requires.positive.1 c.gcd-common.ensures.greatest.1).1 in
    c.gcd-above.ensures.positive (omega arith)

pub returns-in_default-clause-too_large : goal.returns-in_default-clause-too_large
returns-in_default-clause-too_large c n d is n_below d_below =
    let a = c.args in
    let own = IsProduct-cancelled a.size a.den a.u a.v c.gcd-above.result c.gcd-below.result c.gcd-common.result c.requires.positive.0 c.requires.positive.1 c.requires.coprime c.gcd-common.ensures.greatest c.gcd-above.ensures.greatest c.gcd-below.ensures.greatest in
    let same = same_parts a.size a.den a.u a.v n d _ _ c.requires.positive.0 c.requires.positive.1 is own in
    c.in_default.ensures (subst (λ m. m < 2 ^ 126) same.0 n_below)

pub returns-in_default-product_below_limit-clause-too_large : goal.returns-in_default-product_below_limit-clause-too_large
returns-in_default-product_below_limit-clause-too_large c n d is n_below d_below =
    let a = c.args in
    let own = IsProduct-cancelled a.size a.den a.u a.v c.gcd-above.result c.gcd-below.result c.gcd-common.result c.requires.positive.0 c.requires.positive.1 c.requires.coprime c.gcd-common.ensures.greatest c.gcd-above.ensures.greatest c.gcd-below.ensures.greatest in
    let same = same_parts a.size a.den a.u a.v n d _ _ c.requires.positive.0 c.requires.positive.1 is own in
    c.in_default-product_below_limit.ensures (subst (λ m. m < 2 ^ 126) same.1 d_below)

pub returns-clause-parts : goal.returns-clause-parts
returns-clause-parts c =
    let a = c.args in
    let own = IsProduct-cancelled a.size a.den a.u a.v c.gcd-above.result c.gcd-below.result c.gcd-common.result c.requires.positive.0 c.requires.positive.1 c.requires.coprime c.gcd-common.ensures.greatest c.gcd-above.ensures.greatest c.gcd-below.ensures.greatest in
    subst₂ (IsProduct a.size a.den a.u a.v) (sym c.in-Some.ensures.1) (sym c.in-Some-product_below_limit.ensures.1) own
