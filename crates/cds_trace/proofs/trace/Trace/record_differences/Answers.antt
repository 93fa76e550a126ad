use Rattle.std.proofs.Common.{◌≡◌, ◌∙◌, pos, ◌-ℤ◌, get_or, arith, rules, refl, to_z, of_z, w32, FitsSigned}
use Rattle.std.proofs.lemmas.Int.{ints, to_z-of_z}
use mir.Syntax.{w64}
use mir.Val.{SFits}
use Rattle.cds_trace.proofs.DifferenceLaws.{bytes_behind-more, bytes_behind-last}
use Rattle.cds_trace.proofs.trace.Trace.record_differences.Goals as goal

pub loop-i-preserved : goal.loop-i-preserved
loop-i-preserved c =
    let sample = get_or c.samples-samples.result.now c.loop-i.i (pos 0) in
    let fits : FitsSigned w32 (get_or c.samples-samples.result.now c.loop-i.i (pos 0)) = search rules in
    let whole : to_z w32 (of_z w32 (get_or c.samples-samples.result.now c.loop-i.i (pos 0))) ≡ get_or c.samples-samples.result.now c.loop-i.i (pos 0) = omega (arith, ints) in
    let difference : c.difference.result ≡ sample -ℤ to_z w32 c.loop-i.before-bits = rw whole at c.difference.ensures in
    let wide : SFits w64 c.difference.result = search rules in
    let pushed = rw (rw difference at (simp to_z-of_z at c.folded.ensures)) at c.in_ok-push_number.ensures in
    rw whole (bytes_behind-more c.loop-i.bytes.items c.push_number.new.bytes.items _ (to_z w32 c.loop-i.before-bits) sample (pos 0) c.samples-samples.result.now c.loop-i.i c.loop-i-test.true refl pushed c.loop-i.invariant)

pub returns : goal.returns
returns c =
    let whole = bytes_behind-last c.loop-i.bytes.items _ (to_z w32 c.loop-i.before-bits) c.samples-samples.result.now c.loop-i.i c.loop-i-test.false c.loop-i.invariant in
    c.from_vec.ensures ∙ (rw c.samples-samples.ensures at whole)
