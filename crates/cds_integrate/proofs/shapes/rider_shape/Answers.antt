use Rattle.cds_integrate.proofs.ShapeLaws.{rider-is}
use Rattle.cds_integrate.proofs.shapes.rider_shape.Goals as goal

pub returns-clause-shape : goal.returns-clause-shape
returns-clause-shape g c =
    let signal = c.args.trace.now in
    let part = c.args.part in
    let e = c.requires.end in
    let is = rider-is signal part c.len-samples.ensures.trace c.requires.within c.requires.part c.requires.order
    (rw e at c.requires.high.1) (rw e at c.requires.high.2) (rw e at c.requires.high.0) (rw e at c.requires.clear) in
    rw (c.chord.ensures.value, e) is
