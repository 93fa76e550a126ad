use Rattle.std.proofs.Common.{◌≡◌, ◌∙◌, ap, sym, arith, to_z, of_z, w64}
use Rattle.std.proofs.lemmas.Int.{ints}
use Rattle.csv.specs.Records.{fields_of}
use Rattle.cds_trace.specs.TraceText.{time_in_us}
use Rattle.cds_trace.proofs.TextLaws.{time_of-above, time_of-below, time_of-field_at}
use Rattle.cds_trace.proofs.read.time_of.Goals as goal

pub returns-in-Some-clause-value : goal.returns-in-Some-clause-value
returns-in-Some-clause-value c =
    let whole : to_z w64 (of_z w64 c.in-Some.time) ≡ c.in-Some.time = omega (arith, ints, c.in-Some.ensures.size) in
    rw whole (sym (time_of-above (fields_of c.args.row.now) c.in-Some.time (sym c.in-Some.ensures.value) (grind (arith, ints))))

pub returns-in_default-clause-value : goal.returns-in_default-clause-value
returns-in_default-clause-value c = sym (time_of-below (fields_of c.args.row.now) c.in-Some.time (sym c.in-Some.ensures.value) (grind (arith, ints)))

pub returns-in_default-2-clause-value : goal.returns-in_default-2-clause-value
returns-in_default-2-clause-value c = sym (time_of-field_at (fields_of c.args.row.now) ∙ ap time_in_us (sym c.in_default.ensures.value))
