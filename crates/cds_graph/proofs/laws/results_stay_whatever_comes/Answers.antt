use Rattle.cds_graph.proofs.StayLaws.{eval-all_applied}
use Rattle.cds_graph.proofs.laws.results_stay_whatever_comes.Goals as goal

pub returns : goal.returns
returns c =
    eval-all_applied (λ tables change. record {
      traces = c.trace_versions_stay.ensures tables change;
      methods = c.method_versions_stay.ensures tables change;
    })
