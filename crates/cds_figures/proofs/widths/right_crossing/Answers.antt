use Rattle.std.proofs.Common.{◌≡◌, ◌+◌, ◌-◌, ◌*◌, ◌≤◌, ◌≤ℤ◌, ◌<ℤ◌, Some, ap, sym, ◌∙◌, arith, rules}
use Rattle.std.proofs.lemmas.Int.{to_z-of_z}
use Rattle.std.proofs.Math.Nat.{mul-le-mul_right}
use mir.Syntax.{w64}
use mir.Val.{SFits, to_z}
use Rattle.cds_figures.proofs.CrossingLaws.{right-found, right-on}
use Rattle.cds_figures.proofs.widths.right_crossing.Goals as goal

pub returns-then-outer-level-clause-value : goal.returns-then-outer-level-clause-value
returns-then-outer-level-clause-value g c =
    let outer_fits : SFits w64 c.scaled_height-outer.result = search rules in
    let level_fits : SFits w64 c.args.level.at = search rules in
    let time = rw c.period.ensures.value at (simp to_z-of_z at c.meeting_time.ensures.value) in
    let down : c.scaled_height-outer.result ≤ℤ c.args.level.at = search rules in
    ap Some time ∙ sym (right-found c.args.trace.now c.args.line.now c.args.level.at c.args.apex c.args.end c.loop-i.i (to_z w64 c.loop-i.inner-bits) c.scaled_height-outer.result
    c.loop-i.invariant.search (omega arith) (omega arith) c.loop-i.invariant.inner c.scaled_height-outer.ensures.value down)

pub returns-then-outer-level-clause-within : goal.returns-then-outer-level-clause-within
returns-then-outer-level-clause-within g c =
    let last : (c.loop-i.i - 1 + 1) * c.args.trace.now.period ≤ c.args.end * c.args.trace.now.period =
    mul-le-mul_right c.args.trace.now.period (omega arith) in
    grind (arith, last)

pub loop-i-preserved : goal.loop-i-preserved
loop-i-preserved g c =
    let fits : SFits w64 c.scaled_height-outer.result = search rules in
    let level_fits : SFits w64 c.args.level.at = search rules in
    let here : c.loop-i.i + 1 - 1 ≡ c.loop-i.i = omega arith in
    let up : c.args.level.at <ℤ c.scaled_height-outer.result = search rules in
    let on = right-on c.args.trace.now c.args.line.now c.args.level.at c.args.end c.loop-i.i c.scaled_height-outer.result (omega arith) c.scaled_height-outer.ensures.value up in
    record {
      inner = rw here (simp to_z-of_z c.scaled_height-outer.ensures.value);
      above = simp to_z-of_z up;
      search = sym on ∙ c.loop-i.invariant.search;
      least = omega (arith, c.loop-i.invariant.least, c.scaled_height-outer.ensures.counted);
      counted = omega arith;
    }
