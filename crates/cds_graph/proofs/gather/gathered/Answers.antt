use Rattle.std.proofs.Common.{◌≡◌, ◌∙◌, refl, sym, ap}
use Rattle.cds_rules.specs.Fields.{fields_of}
use Rattle.cds_graph.specs.Building.{after}
use Rattle.cds_graph.proofs.GatherLaws.{sequence-gathered}
use Rattle.cds_graph.proofs.MadeLaws.{method-fields}
use Rattle.cds_graph.proofs.gather.gathered.Goals as goal

pub noise_of-noise-requires-clause-method : goal.noise_of-noise-requires-clause-method
noise_of-noise-requires-clause-method c =
    rw c.as_ref.ensures (method-fields (after c.args.source.now) _ c.in_ok-method.method.value c.in_ok-method.ensures)

pub returns : goal.returns
returns c =
    sequence-gathered (after c.args.source.now) c.args.inputs.now _ _ _ _
    (method-fields (after c.args.source.now) _ c.in_ok-method.method.value c.in_ok-method.ensures) c.in_ok-rows.ensures
    c.in_ok-standards.ensures c.noise_of-noise.ensures
