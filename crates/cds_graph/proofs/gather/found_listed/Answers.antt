use Rattle.std.proofs.Common.{◌≡◌, ◌∙◌, refl, sym, ap}
use Rattle.cds_graph.specs.Building.{after}
use Rattle.cds_graph.proofs.GatherLaws.{listed-gathered}
use Rattle.cds_graph.proofs.MadeLaws.{method-fields}
use Rattle.cds_graph.proofs.gather.found_listed.Goals as goal

pub returns : goal.returns
returns c =
    listed-gathered (after c.args.source.now) c.args.listed.now _ _
    (method-fields (after c.args.source.now) _ c.in_ok-method.method.value c.in_ok-method.ensures) c.in_ok-rows.ensures
