use Rattle.std.proofs.Common.{◌≡◌, ◌∙◌, refl, sym, ap}
use Rattle.cds_rules.specs.Fields.{fields_of}
use Rattle.cds_graph.specs.Recorded.{fields_in}
use Rattle.cds_graph.specs.Building.{after}
use Rattle.cds_graph.specs.Keys.{noise_key_by}
use Rattle.cds_graph.proofs.MadeLaws.{method-fields, none-found}
use Rattle.cds_graph.proofs.PoolLaws.{method-is, method-there}
use Rattle.cds_graph.proofs.noises.noise_key.Goals as goal

pub unreachable-requires : goal.unreachable-requires
unreachable-requires c =
    none-found _ c.in_default.ensures
    (method-there (after c.args.source.now) c.args.methods.now _ c.requires.methods c.requires.known)

pub returns : goal.returns
returns c =
    let is = method-is (after c.args.source.now) c.args.methods.now _ c.in-Some.method.now c.requires.methods (sym
    c.in-Some.ensures) in
    let stated : fields_of c.as_ref.result.now.method
    ≡ fields_in (after c.args.source.now) c.args.inputs.now.method c.args.inputs.now.version =
    rw c.as_ref.ensures (method-fields (after c.args.source.now) _ c.in-Some.method.now.value is) in
    c.noise_key_in.ensures ∙ ap (λ f. noise_key_by f c.args.inputs.now) stated
