use Rattle.std.proofs.Common.{◌≡◌, ◌∙◌, sym, arith, to_z, of_z, w64}
use Rattle.std.proofs.lemmas.Int.{ints}
use Rattle.csv.specs.Records.{fields_of}
use Rattle.cds_trace.proofs.TextLaws.{sample_of-no_sample, sample_of-no_time, sample_of-other, sample_of-two}
use Rattle.cds_trace.proofs.read.sample_of.Goals as goal

pub returns-then-len-ne2 : goal.returns-then-len-ne2
returns-then-len-ne2 c = sym (sample_of-other _ _ (fields_of c.args.row.now) c.requires.place (λ two. c.if-len-ne2.true (c.len.ensures ∙ two)))

pub returns-in_default : goal.returns-in_default
returns-in_default c =
    sym (sample_of-no_time _ _ (fields_of c.args.row.now) c.requires.place (sym c.len.ensures ∙ c.if-len-ne2.false) (sym c.number_at.ensures.value ∙ c.in_default.is))

pub returns-in_default-number_at : goal.returns-in_default-number_at
returns-in_default-number_at c =
    sym (sample_of-no_sample _ _ (fields_of c.args.row.now) c.in-Some.time c.requires.place (sym c.len.ensures ∙ c.if-len-ne2.false)
    (sym c.number_at.ensures.value ∙ c.in-Some.is) (sym c.number_at-2.ensures.value ∙ c.in_default-number_at.is))

pub returns : goal.returns
returns c =
    let time = sym c.number_at.ensures.value ∙ c.in-Some.is in
    let sample = sym c.number_at-2.ensures.value ∙ c.in-Some-number_at.is in
    let time_whole : to_z w64 (of_z w64 c.in-Some.time) ≡ c.in-Some.time = omega (arith, ints, c.in-Some.ensures.size) in
    let sample_whole : to_z w64 (of_z w64 c.in-Some-number_at.sample) ≡ c.in-Some-number_at.sample = omega (arith, ints, c.in-Some-number_at.ensures.size) in
    rw (time_whole, sample_whole) at c.sample_of_numbers.ensures
    ∙ sym (rw (time, sample) at (sample_of-two c.args.period c.args.index (fields_of c.args.row.now) c.requires.place (sym c.len.ensures ∙ c.if-len-ne2.false)))
