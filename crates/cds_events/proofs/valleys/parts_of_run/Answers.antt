use Rattle.std.proofs.Common.{◌≡◌, ◌∙◌, ap, get_or, arith}
use Rattle.cds_events.specs.Placed.{Placed}
use Rattle.cds_events.proofs.PartLaws.{ordered-order, part-steps}
use Rattle.cds_events.proofs.valleys.parts_of_run.Goals as goal

pub returns-in_err-parts-clause-most : goal.returns-in_err-parts-clause-most
returns-in_err-parts-clause-most g c =
    omega (arith, ordered-order c.args.trace.now c.args.run.now c.requires.some c.requires.ordered)

pub returns-in_err-push-clause-most : goal.returns-in_err-push-clause-most
returns-in_err-push-clause-most g c =
    let kept = c.loop-rest.invariant in
    let first : Placed = c.peak-item.result in
    let apex : c.peak.inside.apex ≡ (get_or c.loop-rest.rest.now 0 first).apex =
    ap (λ (p : Placed). p.apex) (c.peak.view_is ∙ c.peak-item.is) in
    part-steps c.args.trace.now c.args.run.now c.loop-rest.rest.now first c.loop-rest.start _ _ _ c.requires.some
    c.requires.ordered
    (omega (arith, c.in-len1-up.len_at_least)) kept.ordered kept.ends kept.most (rw apex at c.part_end-end.ensures.most)
