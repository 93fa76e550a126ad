use Rattle.std.proofs.Common.{arith, sym}
use Rattle.cds_trace.proofs.ExtremeLaws.{first_greatest-is}
use Rattle.cds_trace.proofs.extremes.first_greatest.Goals as goal

pub returns-clause-value : goal.returns-clause-value
returns-clause-value g c =
    let kept = c.loop-i.invariant in
    sym (first_greatest-is c.args.trace.now c.args.from c.args.to c.loop-i.sample kept.low (omega arith)
    (λ k l m. rw (← kept.level) (kept.before k l m)) (λ k l m. rw (← kept.level) (kept.most k l (omega arith))))
