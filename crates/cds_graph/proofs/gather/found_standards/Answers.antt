use Rattle.std.proofs.Common.{◌≡◌, ◌∙◌, refl, sym, ap}
use Rattle.cds_graph.specs.Building.{after, KnowsListed}
use Rattle.cds_graph.proofs.PlaceLaws.{All-read}
use Rattle.cds_graph.proofs.gather.found_standards.Goals as goal

pub found_listed-requires-clause-known : goal.found_listed-requires-clause-known
found_listed-requires-clause-known c =
    All-read (KnowsListed (after c.args.source.now)) c.args.inputs.now.standards c.loop-place.place
    c.index-standards-place.result
    c.requires.known (rw c.as_slice-standards.ensures at c.loop-place-test.true) (rw c.as_slice-standards.ensures at
    c.index-standards-place.is)
