use Rattle.cds_graph.proofs.PlaceLaws.{names-more}
use Rattle.cds_graph.proofs.source.Source.names_before.Goals as goal

pub loop-place-preserved : goal.loop-place-preserved
loop-place-preserved c =
    rw c.in_ok-push.ensures.items
    (names-more {V = Unit {0}} c.args.self.now.tables.now.state c.loop-place.place c.in-Some.found.0
    c.in-Some.found.1.now
    c.loop-place.list.entries.items tt c.in-Some.ensures c.loop-place.invariant)
