use Rattle.std.proofs.Common.{◌≤◌, sym, arith}
use Rattle.cds_base.proofs.SearchLaws.{greatest-is}
use Rattle.cds_base.proofs.halving.greatest_reached.Goals as goal

pub returns-clause-value : goal.returns-clause-value
returns-clause-value g c =
    let is = c.loop-above.invariant in
    let near = c.loop-above-test.false in
    let within : c.loop-above.low ≤ c.args.most = let o = is.ordered in let t = is.top in omega arith in
    sym (greatest-is (g.R.Reaching.reached c.args.subject.now) c.args.most c.loop-above.low within is.reached (λ k lt le. is.missed k (omega arith) le))
