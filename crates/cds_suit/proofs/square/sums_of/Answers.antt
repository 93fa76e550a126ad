use Rattle.std.proofs.Common.{◌≡◌, ℕ, ◌*◌, List, get_or, arith, ap}
use Rattle.std.specs.Prelude.{sum}
use Rattle.std.proofs.lemmas.List.{take_all}
use Rattle.std.proofs.lemmas.List.Sums.{sum_by_more_le}
use Rattle.cds_suit.specs.Deviation.{sum_of_squares}
use Rattle.cds_suit.proofs.Sums.{sum-small, sum_of_squares-small}
use Rattle.cds_suit.proofs.square.sums_of.Goals as goal

pub overflow_add-sums : goal.overflow_add-sums
overflow_add-sums c =
    let values : List ℕ = c.args.values.now in
    let i : ℕ = c.loop-value.value-index in
    let here : c.from-x.result ≡ get_or values i 0 = c.from-x.ensures in
    let more = sum_by_more_le (λ x. x) values i 0 c.loop-value-test.true in
    let whole = sum-small values (c.requires.few, c.requires.below) in
    let front = c.loop-value.invariant.x in
    omega arith

pub overflow_add-sums-in-loop-value : goal.overflow_add-sums-in-loop-value
overflow_add-sums-in-loop-value c =
    let values : List ℕ = c.args.values.now in
    let i : ℕ = c.loop-value.value-index in
    let here : c.from-x.result * c.from-x.result ≡ get_or values i 0 * get_or values i 0 = ap (λ x. x * x) c.from-x.ensures in
    let more = sum_by_more_le (λ x. x * x) values i 0 c.loop-value-test.true in
    let whole = sum_of_squares-small values (c.requires.few, c.requires.below) in
    let front = c.loop-value.invariant.xx in
    omega arith

pub returns-clause-x_fits : goal.returns-clause-x_fits
returns-clause-x_fits c =
    let values : List ℕ = c.args.values.now in
    let all = take_all c.loop-value.value-index values c.loop-value-test.false in
    let same : c.loop-value.sums.x ≡ sum values = rw (← all) c.loop-value.invariant.x in
    let whole = sum-small values (c.requires.few, c.requires.below) in
    omega arith

pub returns-clause-xx_fits : goal.returns-clause-xx_fits
returns-clause-xx_fits c =
    let values : List ℕ = c.args.values.now in
    let all = take_all c.loop-value.value-index values c.loop-value-test.false in
    let same : c.loop-value.sums.xx ≡ sum_of_squares values = rw (← all) c.loop-value.invariant.xx in
    let whole = sum_of_squares-small values (c.requires.few, c.requires.below) in
    omega arith
