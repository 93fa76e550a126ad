use Rattle.std.proofs.Common.{◌∙◌, ap}
use Rattle.cds_graph.specs.GraphLooks.{fields_named, inputs_named, results_named}
use Rattle.cds_graph.proofs.LookLaws.{fields-looked, inputs-looked, results-looked}
use Rattle.cds_graph.proofs.laws.look_ups_are_those_of_the_tables.Goals as goal

pub returns-clause-inputs : goal.returns-clause-inputs
returns-clause-inputs c tables graph name stands =
    ap (λ g. inputs_named g name) stands ∙ inputs-looked tables name

pub returns-clause-fields : goal.returns-clause-fields
returns-clause-fields c tables graph name stands =
    ap (λ g. fields_named g name) stands ∙ fields-looked tables name

pub returns-clause-results : goal.returns-clause-results
returns-clause-results c tables graph name stands =
    ap (λ g. results_named g name) stands ∙ results-looked tables name
