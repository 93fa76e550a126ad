use Rattle.std.proofs.Common.{◌≡◌, ◌∙◌, refl, sym, ap}
use Rattle.cds_graph.specs.Building.{after}
use Rattle.cds_graph.proofs.PlaceLaws.{inputs-none, inputs-more}
use Rattle.cds_graph.proofs.build.all_inputs.Goals as goal

pub unreachable-requires : goal.unreachable-requires
unreachable-requires c =
    inputs-none (after c.args.source.now) c.requires.ready c.loop-place.place c.index-names-place.result
    (rw c.requires.names at c.loop-place-test.true) (rw c.requires.names at c.index-names-place.is)
    c.in_ok-inputs.field-0 c.in_ok-inputs.ensures c.in_default.is

pub loop-place-preserved : goal.loop-place-preserved
loop-place-preserved c =
    rw c.in_ok-push.ensures.items
    (inputs-more (after c.args.source.now) c.requires.ready c.loop-place.place c.index-names-place.result
    (rw c.requires.names at c.loop-place-test.true) (rw c.requires.names at c.index-names-place.is)
    c.in_ok-inputs.field-0 c.in-Some.inputs c.loop-place.all.items c.in_ok-inputs.ensures c.in-Some.is
    c.loop-place.invariant)
