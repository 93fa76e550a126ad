use Rattle.std.proofs.Common.{◌≡◌, ◌*◌, ap, ◌∙◌, arith}
use Rattle.cds_frac.proofs.DecimalSteps.{remainder_is}
use Rattle.cds_frac.proofs.decimals.next_decimal.Goals as goal

pub returns-clause-left : goal.returns-clause-left
returns-clause-left c =
    let all : c.loop.counter ≡ 10 = omega arith in
    remainder_is (c.args.rest * 10) c.loop.digit c.loop.left c.args.den (c.loop.invariant.counted ∙ ap (λ n. c.args.rest * n) all) c.loop.invariant.below_one
