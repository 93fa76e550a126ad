use Rattle.std.proofs.Common.{◌-◌, ◌*◌, ◌≤◌, length, arith}
use Rattle.std.specs.Prelude.{unsigned_abs}
use Rattle.std.proofs.lemmas.Int.{ints}
use Rattle.cds_trace.specs.Heights.{span}
use Rattle.cds_area.proofs.AreaLaws.{units-fit}
use Rattle.cds_integrate.proofs.measures.reported_area.Goals as goal

pub units-requires-clause-small : goal.units-requires-clause-small
units-requires-clause-small c =
    let part = c.args.part in
    let shape = c.requires.part.shape in
    let n = length c.args.trace.now.samples in
    let wide : 1 ≤ 2 * span part.shape.line = omega (arith, shape.from, shape.order, shape.to) in
    let most : unsigned_abs part.area ≤ 2 * 100000000 * (n - 1) * (2 * span part.shape.line) =
    omega (arith, ints, c.requires.part.area, c.requires.sign) in
    let time : (n - 1) * c.args.trace.now.period ≤ 14400000000 = c.period.ensures.trace.last in
    let fit = units-fit (unsigned_abs part.area) (2 * span part.shape.line)
    (n - 1) c.args.trace.now.period wide most time in
    rw (c.area_ratio.ensures.num, c.area_ratio.ensures.den, c.period.ensures.value) fit
