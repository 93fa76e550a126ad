use Rattle.std.proofs.Common.{◌≡◌, pos, ◌*ℤ◌, ◌^◌, arith}
use Rattle.std.proofs.lemmas.Grind.{common_steps}
use Rattle.std.proofs.lemmas.Int.{ints}
use mir.Syntax.{w128}
use mir.Val.{to_z, of_z}
use Rattle.cds_trace.proofs.HeightLaws.{abs-mul-le}
use Rattle.cds_area.proofs.areas.wide_product.Goals as goal

pub returns-clause-small : goal.returns-clause-small
returns-clause-small c =
    let value : to_z w128 (of_z w128 (to_z w128 (of_z w128 c.from.result) *ℤ to_z w128 (of_z w128 c.from-2.result))) ≡ c.args.counts *ℤ pos c.args.samples = grind (arith, common_steps) in
    rw value (abs-mul-le c.args.counts c.args.samples (2 ^ 63) (omega (arith, ints)))
