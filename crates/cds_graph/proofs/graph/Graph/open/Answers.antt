use Rattle.std.proofs.Common.{◌≡◌, ◌∙◌, refl, sym, ap}
use Rattle.cds_graph.proofs.RightLaws.{fresh-all}
use Rattle.cds_graph.proofs.graph.Graph.open.Goals as goal

pub built-requires-clause-ready : goal.built-requires-clause-ready
built-requires-clause-ready g c = c.rules.ensures

pub returns-clause-most : goal.returns-clause-most
returns-clause-most g c =
    rw (← fresh-all c.args.tables.now.state) (rw c.nothing-before.ensures at c.built.ensures.most)
