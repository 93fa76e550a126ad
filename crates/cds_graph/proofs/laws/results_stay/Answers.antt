use Rattle.cds_graph.proofs.StayLaws.{eval-kept}
use Rattle.cds_graph.proofs.laws.results_stay.Goals as goal
use Rattle.cds_book.specs.Plan.{applied}

pub returns : goal.returns
returns c tables change inputs holds =
    eval-kept tables (applied tables change) (record {
      traces = c.trace_versions_stay.ensures tables change;
      methods = c.method_versions_stay.ensures tables change;
    }) inputs holds
