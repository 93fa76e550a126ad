use Rattle.std.proofs.Common.{◌≡◌, true, sym, ap, ◌∙◌, arith}
use Rattle.cds_integrate.specs.Shapes.{Shape}
use Rattle.cds_integrate.specs.Measures.{riders, reach_over}
use Rattle.cds_integrate.proofs.RowLaws.{reach-step}
use Rattle.cds_integrate.proofs.measures.area_end.Goals as goal

pub loop-next-preserved : goal.loop-next-preserved
loop-next-preserved c =
    let item : Shape = c.next-item.result in
    let rider : item.rider ≡ true = sym (ap (λ (s : Shape). s.rider) c.next.view_is) ∙ c.if-not-next.false in
    rw (ap (λ (s : Shape). s.reach) c.next.view_is)
    (reach-step c.args.later.now c.loop-next.next-index c.loop-next.end
    (reach_over c.args.shape (riders c.args.later.now)) item
    (omega arith) c.next-item.is rider c.loop-next.invariant)
