use Rattle.std.proofs.Common.{rules, arith}
use Rattle.std.proofs.lemmas.Int.{to_z-of_z}
use mir.Syntax.{w64}
use mir.Val.{SFits}
use Rattle.cds_trace.specs.Heights.{height_by_span}
use Rattle.cds_figures.proofs.NumberLaws.{mul-lt}
use Rattle.cds_figures.proofs.widths.level_of.Goals as goal

pub returns-clause-below : goal.returns-clause-below
returns-clause-below g c =
    let height = c.height_by_span-height.ensures.value in
    let fits : SFits w64 c.height_by_span-height.result = search rules in
    let low = rw height at (simp to_z-of_z at c.times.ensures.value) in
    let high = rw height at (simp to_z-of_z at c.times-2.ensures.value) in
    let less = mul-lt (height_by_span c.args.trace.now c.args.line.now c.args.apex) c.args.twentieths 20 c.requires.high (omega arith) in
    let first : SFits w64 c.times.result = search rules in
    let second : SFits w64 c.times-2.result = search rules in
    simp to_z-of_z (rw (low, high) less)
