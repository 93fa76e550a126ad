use Rattle.std.proofs.Common.{◌≡◌, ◌+◌, ◌+ℤ◌, pos, get_or, true, arith, rules, refl, to_z, w64}
use Rattle.std.specs.Result.{is_ok}
use Rattle.std.proofs.lemmas.Int.{ints}
use Rattle.cds_trace.proofs.SignalLaws.{AreSums-more, total-fits, total-more}
use Rattle.cds_trace.proofs.trace.running_sums.Goals as goal

pub overflow_add-sum : goal.overflow_add-sum
overflow_add-sum c =
    let xs = c.args.samples.now in
    let i = c.loop-sample.sample-index in
    let range = c.requires.range i (pos 0) c.loop-sample-test.true in
    let more = total-more xs i (to_z w64 c.loop-sample.sum-bits) (get_or xs i (pos 0)) (pos 0) c.loop-sample-test.true c.loop-sample.invariant.sum refl in
    let fits = total-fits xs (i + 1) (to_z w64 c.loop-sample.sum-bits +ℤ get_or xs i (pos 0)) c.requires.few c.requires.range more in
    omega (arith, ints, range, fits, c.from-sum.ensures)

pub loop-sample-preserved : goal.loop-sample-preserved
loop-sample-preserved c =
    let xs = c.args.samples.now in
    let i = c.loop-sample.sample-index in
    let range = c.requires.range i (pos 0) c.loop-sample-test.true in
    let more = total-more xs i (to_z w64 c.loop-sample.sum-bits) (get_or xs i (pos 0)) (pos 0) c.loop-sample-test.true c.loop-sample.invariant.sum refl in
    let fits = total-fits xs (i + 1) (to_z w64 c.loop-sample.sum-bits +ℤ get_or xs i (pos 0)) c.requires.few c.requires.range more in
    let good : is_ok c.push-in-loop-sample.result ≡ true = search rules in
    let items = rw good at c.push-in-loop-sample.ensures.items in
    record {
      sum = omega (arith, ints, range, fits, more, c.from-sum.ensures);
      sums = rw items (AreSums-more xs c.loop-sample.sums.items i _ c.loop-sample-test.true (omega (arith, ints, range, fits, more, c.from-sum.ensures)) c.loop-sample.invariant.sums);
    }
