use Rattle.std.proofs.Common.{◌≡◌, ◌∙◌, arith, sym, to_z, of_z, w64}
use Rattle.std.proofs.lemmas.Int.{ints}
use Rattle.cds_trace.proofs.NumberLaws.{number_of-signed}
use Rattle.cds_trace.proofs.number.number.Goals as goal

pub returns-in-Some-clause-value : goal.returns-in-Some-clause-value
returns-in-Some-clause-value c =
    let whole : to_z w64 (of_z w64 c.in-Some.number) ≡ c.in-Some.number = omega (arith, ints, c.in-Some.ensures.size) in
    rw whole (sym (number_of-signed c.args.field.now c.in-Some.number (sym c.signed_number.ensures.value ∙ c.in-Some.is)))
