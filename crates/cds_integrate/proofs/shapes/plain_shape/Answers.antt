use Rattle.std.proofs.Common.{arith}
use Rattle.cds_integrate.proofs.NodeLaws.{last_up_to-low}
use Rattle.cds_integrate.proofs.ShapeLaws.{plain-is}
use Rattle.cds_integrate.proofs.shapes.plain_shape.Goals as goal

pub chord-requires-clause-from : goal.chord-requires-clause-from
chord-requires-clause-from g c =
    let low = last_up_to-low c.args.nodes.now c.args.part.start 0 (omega arith) in
    omega (arith, low, c.last_up_to-from.ensures, c.requires.order, c.requires.clear, c.requires.within)

pub returns-clause-shape : goal.returns-clause-shape
returns-clause-shape g c =
    rw (c.chord.ensures.value, c.last_up_to-from.ensures, c.first_behind-to.ensures)
    (plain-is c.args.trace.now c.args.nodes.now c.args.part c.len-samples.ensures.trace c.requires.part
    c.requires.order c.requires.clear c.requires.within)
