use Rattle.std.proofs.Common.{arith, sym}
use Rattle.cds_events.proofs.TopLaws.{first_least-is}
use Rattle.cds_events.proofs.valleys.first_least.Goals as goal

pub returns-clause-value : goal.returns-clause-value
returns-clause-value g c =
    let kept = c.loop-i.invariant in
    sym (first_least-is c.args.trace.now c.args.from c.args.to c.loop-i.valley kept.low (omega arith)
    (λ k l m. rw (← kept.depth) (kept.before k l m)) (λ k l m. rw (← kept.depth) (kept.most k l (omega arith))))
