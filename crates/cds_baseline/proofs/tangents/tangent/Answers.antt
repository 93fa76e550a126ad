use Rattle.std.proofs.Common.{◌≡◌, ◌+◌, ◌-◌, ◌∙◌, sym, arith}
use Rattle.cds_baseline.proofs.TangentLaws.{least-start, least-takes, least-keeps, least-clear}
use Rattle.cds_baseline.proofs.tangents.tangent.Goals as goal
use Rattle.cds_baseline.proofs.tangents.tangent.Goals.{then-is_at_most, else-is_at_most}

pub loop-j-init : goal.loop-j-init
loop-j-init g c =
    let at : c.args.v + 2 - 1 ≡ c.args.v + 1 = omega arith in
    let start = least-start c.args.trace.now c.args.v c.slope_to-least.result c.slope_to-least.ensures.rise c.slope_to-least.ensures.run in
    (rw at start, c.slope_to-least.ensures.small, omega arith)

pub loop-j-preserved : goal.loop-j-preserved
loop-j-preserved g c =
    let before : c.loop-j.j - 1 + 1 ≡ c.loop-j.j = omega arith in
    let next : c.loop-j.j + 1 - 1 ≡ c.loop-j.j - 1 + 1 = omega arith in
    let rise = rw (← before) at c.slope_to-slope.ensures.rise in
    let run = rw (← before) at c.slope_to-slope.ensures.run in
    let whole : c.loop-j.j + 1 - 1 ≡ c.loop-j.j = omega arith in
    elim c.if-is_at_most.branch [
      | then-is_at_most w ↦
          let at_most = sym c.is_at_most.ensures ∙ w.if-is_at_most.true in
          let takes = least-takes c.args.trace.now c.args.v (c.loop-j.j - 1) c.loop-j.last c.loop-j.least c.slope_to-slope.result c.loop-j.invariant.0 rise run at_most in
          (rw (w.last-is, w.least-is, whole) (rw before at takes), rw w.least-is c.slope_to-slope.ensures.small, omega arith)
      | else-is_at_most w ↦
          let steeper = sym c.is_at_most.ensures ∙ w.if-is_at_most.false in (
            rw (w.last-is, w.least-is, next) (least-keeps c.args.trace.now c.args.v (c.loop-j.j - 1) c.loop-j.last c.loop-j.least c.slope_to-slope.result c.loop-j.invariant.0 rise run steeper),
            rw w.least-is c.loop-j.invariant.1,
            omega arith,
          )
    ]

pub returns-clause-clear : goal.returns-clause-clear
returns-clause-clear g c = least-clear c.args.trace.now c.args.v (c.loop-j.j - 1) c.loop-j.last c.loop-j.least c.loop-j.invariant.0
