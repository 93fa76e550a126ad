use Rattle.std.proofs.Common.{◌≡◌, ◌∙◌, refl, sym, ap}
use Rattle.cds_graph.specs.Building.{after}
use Rattle.cds_graph.specs.HeldGraph.{entry_shown, sequences_shown}
use Rattle.std.proofs.lemmas.List.{map-append}
use Rattle.cds_graph.proofs.PlaceLaws.{inputs-known, inputs-ranged, inputs-read, sequence-more}
use Rattle.cds_graph.proofs.entry.kept_sequences.Goals as goal

pub sequence_of-requires-clause-inputs : goal.sequence_of-requires-clause-inputs
sequence_of-requires-clause-inputs c =
    inputs-read (after c.args.source.now) c.requires.ready c.loop-place.place c.index-names-place.result
    (rw c.requires.names at c.loop-place-test.true) (rw c.requires.names at c.index-names-place.is)
    c.index-all-place.result
    (rw c.requires.all at c.index-all-place.is)

pub sequence_of-requires-clause-known : goal.sequence_of-requires-clause-known
sequence_of-requires-clause-known c =
    inputs-known (after c.args.source.now) c.requires.ready c.loop-place.place c.index-names-place.result
    (rw c.requires.names at c.loop-place-test.true) (rw c.requires.names at c.index-names-place.is)
    c.index-all-place.result
    (rw c.requires.all at c.index-all-place.is)

pub sequence_of-requires-clause-ranged : goal.sequence_of-requires-clause-ranged
sequence_of-requires-clause-ranged c =
    inputs-ranged (after c.args.source.now) c.requires.ready c.loop-place.place c.index-names-place.result
    (rw c.requires.names at c.loop-place-test.true) (rw c.requires.names at c.index-names-place.is)
    c.index-all-place.result
    (rw c.requires.all at c.index-all-place.is)

pub loop-place-preserved : goal.loop-place-preserved
loop-place-preserved c =
    rw (c.in_ok-push.ensures.items, map-append)
    (sequence-more (after c.args.source.now) c.requires.ready c.loop-place.place c.index-names-place.result
    (rw c.requires.names at c.loop-place-test.true) (rw c.requires.names at c.index-names-place.is)
    c.index-all-place.result
    (entry_shown c.in_ok-entry.entry.value) (sequences_shown c.loop-place.entries.items)
    (rw c.requires.all at c.index-all-place.is) c.in_ok-entry.ensures c.loop-place.invariant)
