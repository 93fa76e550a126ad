use Rattle.std.proofs.Common.{◌≡◌, ◌≤◌, pos, ◌*ℤ◌, arith, rules, ◌∙◌, to_z, of_z}
use Rattle.std.specs.Prelude.{unsigned_abs}
use Rattle.std.specs.Int.{int_div_euclid}
use Rattle.std.proofs.lemmas.Int.{ints, to_z-of_z}
use mir.Syntax.{w64, w128}
use mir.Val.{SFits}
use Rattle.cds_figures.proofs.TimeLaws.{abs-offset-le}
use Rattle.cds_figures.proofs.times.quotient.Goals as goal

-- what is answered, without the conversions of the code
told : (c : goal.After-div_euclid) → c.div_euclid.result ≡ int_div_euclid (pos c.args.period *ℤ c.args.rise) (pos 2 *ℤ c.args.bend)
told c =
    let fits : SFits w64 c.args.rise = search rules in
    let wide : SFits w128 c.wide_product.result = search rules in
    let rise = simp to_z-of_z at c.wide_product.ensures in
    let top : to_z w128 (of_z w128 c.wide_product.result) ≡ pos c.args.period *ℤ c.args.rise = to_z-of_z w128 c.wide_product.result wide ∙ rise in
    let bend : to_z w128 (of_z w128 (pos 2 *ℤ to_z w128 (of_z w128 c.from.result))) ≡ pos 2 *ℤ c.args.bend = omega (arith, ints) in
    rw (top, bend) at c.div_euclid.ensures

small : (c : goal.After-div_euclid) → unsigned_abs c.div_euclid.result ≤ c.args.period
small c = rw (told c) (abs-offset-le c.args.period c.args.rise c.args.bend c.requires.positive c.requires.near)

pub overflow_cast-result : goal.overflow_cast-result
overflow_cast-result c = omega (arith, ints, small c)

pub returns-clause-value : goal.returns-clause-value
returns-clause-value c =
    let same : to_z w64 (of_z w64 (to_z w128 (of_z w128 c.div_euclid.result))) ≡ c.div_euclid.result = omega (arith, ints, small c) in
    same ∙ told c

pub returns-clause-small : goal.returns-clause-small
returns-clause-small c = omega (arith, ints, small c)
