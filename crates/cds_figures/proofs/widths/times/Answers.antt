use Rattle.std.proofs.Common.{◌≡◌, pos, ◌*◌, ◌*ℤ◌, ◌^◌, arith}
use Rattle.std.proofs.lemmas.Grind.{common_steps}
use mir.Syntax.{w64}
use mir.Val.{to_z, of_z}
use Rattle.cds_trace.specs.declared.trace.TheConstants.{MOST_SAMPLES}
use Rattle.cds_trace.proofs.HeightLaws.{abs-mul-le}
use Rattle.cds_figures.proofs.widths.times.Goals as goal

pub returns-clause-small : goal.returns-clause-small
returns-clause-small c =
    let value : to_z w64 (of_z w64 (to_z w64 (of_z w64 c.args.height) *ℤ to_z w64 (of_z w64 c.from.result))) ≡ c.args.height *ℤ pos c.args.count = grind (arith, common_steps) in
    rw value (abs-mul-le c.args.height c.args.count (2 ^ 32 * MOST_SAMPLES) c.requires)
