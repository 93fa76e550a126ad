use Rattle.cds_book.specs.Plan.{applied}
use Rattle.cds_graph.proofs.StayLaws.{HoldsInputs-kept}
use Rattle.cds_graph.proofs.laws.inputs_stay_there.Goals as goal

pub returns : goal.returns
returns c tables change inputs holds =
    HoldsInputs-kept tables (applied tables change) (record {
      traces = c.trace_versions_stay.ensures tables change;
      methods = c.method_versions_stay.ensures tables change;
    }) inputs holds
