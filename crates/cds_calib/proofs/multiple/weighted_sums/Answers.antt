use Rattle.std.proofs.Common.{◌≡◌, ℕ, ◌*◌, ◌/◌, List, get_or, arith, ap, ap₂, ◌∙◌}
use Rattle.std.proofs.lemmas.List.{take_all}
use Rattle.std.proofs.lemmas.List.Sums.{sum_by_more_le}
use Rattle.cds_calib.specs.declared.point.Point.{Point}
use Rattle.cds_calib.specs.Fit.{sum_w, sum_wy}
use Rattle.cds_calib.proofs.Weighted.{sum_w-small, sum_wy-small}
use Rattle.cds_calib.proofs.multiple.weighted_sums.Goals as goal

pub overflow_add-sums : goal.overflow_add-sums
overflow_add-sums c =
    let points : List Point = c.args.points.now in
    let i : ℕ = c.loop-point.point-index in
    let m : ℕ = c.args.multiple in
    let none : Point = record { amount = 0; area = 0 } in
    let here : c.from-weight.result ≡ m / (get_or points i none).amount = c.from-weight.ensures ∙ ap (λ a. m / a) c.from.ensures in
    let more = sum_by_more_le (λ p. m / p.amount) points i none c.loop-point-test.true in
    let whole = sum_w-small m points c.requires.points c.requires.multiple in
    let front = c.loop-point.invariant.0 in
    omega arith

pub overflow_add-sums-in-loop-point : goal.overflow_add-sums-in-loop-point
overflow_add-sums-in-loop-point c =
    let points : List Point = c.args.points.now in
    let i : ℕ = c.loop-point.point-index in
    let m : ℕ = c.args.multiple in
    let none : Point = record { amount = 0; area = 0 } in
    let here : c.from-weight.result * c.from-in-loop-point.result ≡ m / (get_or points i none).amount * (get_or points i none).area =
    ap₂ (λ w y. w * y) (c.from-weight.ensures ∙ ap (λ a. m / a) c.from.ensures) c.from-in-loop-point.ensures in
    let more = sum_by_more_le (λ p. m / p.amount * p.area) points i none c.loop-point-test.true in
    let whole = sum_wy-small m points c.requires.points c.requires.multiple in
    let front = c.loop-point.invariant.1 in
    omega arith

pub returns-clause-w_bound : goal.returns-clause-w_bound
returns-clause-w_bound c =
    let whole = sum_w-small c.args.multiple c.args.points.now c.requires.points c.requires.multiple in
    let all = take_all c.loop-point.point-index c.args.points.now c.loop-point-test.false in
    let same : c.loop-point.sums.w ≡ sum_w c.args.multiple c.args.points.now = rw (← all) c.loop-point.invariant.0 in
    omega arith

pub returns-clause-wy_bound : goal.returns-clause-wy_bound
returns-clause-wy_bound c =
    let whole = sum_wy-small c.args.multiple c.args.points.now c.requires.points c.requires.multiple in
    let all = take_all c.loop-point.point-index c.args.points.now c.loop-point-test.false in
    let same : c.loop-point.sums.wy ≡ sum_wy c.args.multiple c.args.points.now = rw (← all) c.loop-point.invariant.1 in
    omega arith
