use Rattle.std.proofs.Common.{◌+◌, ◌-◌, ◌*◌, ◌≤◌, ◌<◌, ◌≤ℤ◌, ◌<ℤ◌, Some, ap, sym, ◌∙◌, arith, rules}
use Rattle.std.proofs.lemmas.Int.{to_z-of_z}
use Rattle.std.proofs.Math.Nat.{mul-le-mul_right}
use mir.Syntax.{w64}
use mir.Val.{SFits, to_z}
use Rattle.cds_figures.proofs.CrossingLaws.{left-found, left-on, left-none, nearer_low}
use Rattle.cds_figures.proofs.widths.left_crossing.Goals as goal

pub returns-then-outer-level-clause-value : goal.returns-then-outer-level-clause-value
returns-then-outer-level-clause-value g c =
    let outer_fits : SFits w64 c.scaled_height-outer.result = search rules in
    let level_fits : SFits w64 c.args.level.at = search rules in
    let time = rw c.period.ensures.value at (simp to_z-of_z at c.meeting_time.ensures.value) in
    let down : c.scaled_height-outer.result ≤ℤ c.args.level.at = search rules in
    ap Some time ∙ sym (left-found c.args.trace.now c.args.line.now c.args.level.at c.args.start c.args.apex c.loop-i.i c.scaled_height-outer.result (to_z w64 c.loop-i.inner-bits)
    c.loop-i.invariant.search c.loop-i-test.true c.scaled_height-outer.ensures.value c.loop-i.invariant.inner down)

pub returns-clause-value : goal.returns-clause-value
returns-clause-value g c =
    sym (left-none c.args.trace.now c.args.line.now c.args.level.at c.args.start c.args.apex c.loop-i.i c.loop-i.invariant.search c.loop-i-test.false)

pub returns-then-outer-level-clause-before : goal.returns-then-outer-level-clause-before
returns-then-outer-level-clause-before g c =
    let outer_fits : SFits w64 c.scaled_height-outer.result = search rules in
    let level_fits : SFits w64 c.args.level.at = search rules in
    let down : c.scaled_height-outer.result ≤ℤ c.args.level.at = search rules in
    let near = nearer_low c.scaled_height-outer.result (to_z w64 c.loop-i.inner-bits) c.args.level.at down c.loop-i.invariant.above in
    let short = simp to_z-of_z at c.meeting_time.ensures.short in
    let some : 0 < c.period.result = rw c.period.ensures.value (c.period.ensures.trace.period) in
    let before = rw c.period.ensures.value at (short near some) in
    let last : (c.loop-i.i - 1 + 1) * c.args.trace.now.period ≤ c.args.apex * c.args.trace.now.period =
    mul-le-mul_right c.args.trace.now.period (omega (arith, c.loop-i.invariant.high, c.loop-i-test.true)) in
    omega (arith, before, last)

pub loop-i-preserved : goal.loop-i-preserved
loop-i-preserved g c =
    let fits : SFits w64 c.scaled_height-outer.result = search rules in
    let level_fits : SFits w64 c.args.level.at = search rules in
    let up : c.args.level.at <ℤ c.scaled_height-outer.result = search rules in
    let on = left-on c.args.trace.now c.args.line.now c.args.level.at c.args.start c.loop-i.i c.scaled_height-outer.result c.loop-i-test.true c.scaled_height-outer.ensures.value up in
    record {
      low = omega (arith, c.loop-i-test.true);
      high = omega (arith, c.loop-i.invariant.high);
      inner = simp to_z-of_z c.scaled_height-outer.ensures.value;
      above = simp to_z-of_z up;
      search = sym on ∙ c.loop-i.invariant.search;
      least = omega (arith, c.loop-i.invariant.least, c.scaled_height-outer.ensures.counted);
      counted = omega (arith, c.loop-i.invariant.counted, c.scaled_height-outer.ensures.counted, c.loop-i-test.true);
    }
