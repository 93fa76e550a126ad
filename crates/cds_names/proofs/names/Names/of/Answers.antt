use Rattle.std.proofs.Common.{◌≡◌, ◌-◌, ◌<◌, length, Some, None, sym, ap, ◌∙◌, arith}
use Rattle.std.proofs.lemmas.Bool.{ltb-true}
use Rattle.cds_names.specs.Naming.{peak_of}
use Rattle.cds_names.proofs.Wants.{same_default}
use Rattle.cds_names.proofs.names.Names.of.Goals as goal

pub overflow_add-result : goal.overflow_add-result
overflow_add-result c =
    let found = c.in-Some-Some in
    let peaks = c.deref.result.now in
    let within : (c.args.component - 1) < length peaks = ltb-true (c.args.component - 1) (length peaks) (sym found.ensures.lookup.0) in
    let at : peak_of peaks (c.args.component - 1) ≡ Some found.place = same_default peaks (c.args.component - 1) None found.field-0.now within ∙ sym found.ensures.lookup.1 ∙ found.field-0-is in
    omega (arith, c.self.invariant.numbers (c.args.component - 1) found.place (ap (λ l. peak_of l (c.args.component - 1)) (sym c.deref.ensures.value) ∙ at))
