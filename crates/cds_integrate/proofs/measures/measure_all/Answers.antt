use Rattle.std.proofs.Common.{length, ◌∙◌, ap}
use Rattle.cds_integrate.proofs.AreaLaws.{gross-length}
use Rattle.cds_integrate.proofs.measures.measure_all.Goals as goal

pub measure_each-requires-clause-whole : goal.measure_each-requires-clause-whole
measure_each-requires-clause-whole g c =
    ap length c.as_slice-gross.ensures.value ∙ (ap length c.in_ok-areas.ensures.value ∙ gross-length c.args.trace.now
    c.args.shapes.now)
