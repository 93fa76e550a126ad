use Rattle.std.proofs.Common.{◌≡◌, pos, ◌*ℤ◌, ◌^◌, arith}
use Rattle.std.proofs.lemmas.Grind.{common_steps}
use Rattle.std.proofs.lemmas.Int.{ints}
use mir.Syntax.{w64}
use mir.Val.{to_z, of_z}
use Rattle.cds_trace.proofs.HeightLaws.{abs-mul-le}
use Rattle.cds_trace.proofs.lines.product.Goals as goal

pub returns-clause-small : goal.returns-clause-small
returns-clause-small c =
    let value : to_z w64 (of_z w64 (to_z w64 (of_z w64 c.from.result) *ℤ to_z w64 (of_z w64 c.from-2.result))) ≡ c.args.counts *ℤ pos c.args.samples = grind (arith, common_steps) in
    rw value (abs-mul-le c.args.counts c.args.samples (2 ^ 31) (omega (arith, ints)))
