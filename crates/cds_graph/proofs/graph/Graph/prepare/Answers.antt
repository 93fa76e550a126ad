use Rattle.std.proofs.Common.{◌≡◌, ◌∙◌, refl, sym, ap}
use Rattle.cds_book.specs.Plan.{applied}
use Rattle.cds_graph.proofs.RightLaws.{fresh-kept, graph_of-right}
use Rattle.cds_graph.proofs.graph.Graph.prepare.Goals as goal

pub built-requires-clause-ready : goal.built-requires-clause-ready
built-requires-clause-ready g c =
    c.rules_are_kept.ensures c.args.tables.now.state c.args.change.now c.rules.ensures c.requires.accepted

pub built-requires-clause-right : goal.built-requires-clause-right
built-requires-clause-right g c =
    rw c.requires.stands
    (graph_of-right c.args.tables.now.state (applied c.args.tables.now.state c.args.change.now) (record {
      traces = c.trace_versions_stay.ensures c.args.tables.now.state c.args.change.now;
      methods = c.method_versions_stay.ensures c.args.tables.now.state c.args.change.now;
    })
    c.rules.ensures)

pub returns-in_err-graph-clause-most : goal.returns-in_err-graph-clause-most
returns-in_err-graph-clause-most g c =
    rw (← fresh-kept c.args.tables.now.state (applied c.args.tables.now.state c.args.change.now))
    (rw c.requires.stands at c.built.ensures.most)

pub returns-clause-most : goal.returns-clause-most
returns-clause-most g c =
    rw (← fresh-kept c.args.tables.now.state (applied c.args.tables.now.state c.args.change.now))
    (rw c.requires.stands at c.built.ensures.most)
