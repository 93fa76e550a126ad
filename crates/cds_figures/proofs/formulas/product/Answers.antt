use Rattle.std.proofs.Common.{◌≡◌, pos, ◌*ℤ◌, arith}
use Rattle.std.proofs.lemmas.Grind.{common_steps}
use mir.Syntax.{w128}
use mir.Val.{to_z, of_z}
use Rattle.cds_base.specs.declared.peak.TheConstants.{HEIGHT_LIMIT}
use Rattle.cds_trace.proofs.HeightLaws.{abs-mul-le}
use Rattle.cds_figures.proofs.formulas.product.Goals as goal

pub returns-clause-small : goal.returns-clause-small
returns-clause-small c =
    let value : to_z w128 (of_z w128 (to_z w128 (of_z w128 c.args.num) *ℤ to_z w128 (of_z w128 c.from.result))) ≡ c.args.num *ℤ pos c.args.den = grind (arith, common_steps) in
    rw value (abs-mul-le c.args.num c.args.den HEIGHT_LIMIT (omega (arith, c.requires)))
