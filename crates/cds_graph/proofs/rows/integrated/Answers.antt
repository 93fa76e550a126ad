use Rattle.std.proofs.Common.{◌≡◌, ◌∙◌, refl, sym, ap}
use Rattle.cds_rules.specs.Fields.{fields_of}
use Rattle.cds_graph.specs.Building.{after}
use Rattle.cds_graph.proofs.MadeLaws.{method-fields, none-found, row-made, row-made_steps}
use Rattle.cds_graph.proofs.PoolLaws.{method-is, method-there}
use Rattle.cds_graph.proofs.rows.integrated.Goals as goal

pub unreachable-requires-in_default-method_node : goal.unreachable-requires-in_default-method_node
unreachable-requires-in_default-method_node g c =
    none-found _ c.in_default-method_node.ensures
    (method-there (after c.args.source.now) c.args.methods.now _ c.requires.methods c.requires.there.method)

pub returns-clause-value : goal.returns-clause-value
returns-clause-value g c =
    let is = method-is (after c.args.source.now) c.args.methods.now _ c.in-Some-method_node.method.now
    c.requires.methods
    (sym c.in-Some-method_node.ensures) in
    row-made (after c.args.source.now) c.args.key.now c.in-Some.trace.now (fields_of c.as_ref.result.now.method)
    c.integrated.result
    c.in-Some.ensures (rw c.as_ref.ensures (method-fields (after c.args.source.now) _
    c.in-Some-method_node.method.now.value is))
    (rw c.in_ok-key.ensures at c.integrated.ensures.key) c.integrated.ensures.period
    (rw c.in_ok-key.ensures at c.integrated.ensures.found)

pub returns-clause-most : goal.returns-clause-most
returns-clause-most g c =
    row-made_steps (after c.args.source.now) c.args.key.now c.in-Some.trace.now _ _ c.in-Some.ensures
    c.integrated.ensures.most
