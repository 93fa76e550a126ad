use Rattle.std.proofs.Common.{◌∙◌, ap}
use Rattle.cds_rules.specs.Fields.{fields_of}
use Rattle.cds_integrate.specs.Seen.{row_seen}
use Rattle.cds_graph.specs.Rows.{found_in}
use Rattle.cds_graph.proofs.found.RowNode.integrated.Goals as goal

pub returns-clause-found : goal.returns-clause-found
unfolding found_in
returns-clause-found g c =
    c.in_ok-part.ensures.plain ∙ ap (row_seen c.args.trace.now (fields_of c.args.method.now)) c.as_slice.ensures
