use Rattle.std.proofs.Common.{arith}
use Rattle.std.proofs.lemmas.Int.{ints}
use Rattle.std.proofs.lemmas.Fmt.{length-decimal-le}
use Rattle.cds_trace.proofs.write.write_sample.Goals as goal

pub write_digits-start-requires : goal.write_digits-start-requires
write_digits-start-requires c =
    let short = length-decimal-le 9 c.from.result (omega arith) (omega (arith, ints, c.requires.sample)) (omega arith) in
    (omega arith, c.requires.within)

pub write_before-requires-clause-room : goal.write_before-requires-clause-room
write_before-requires-clause-room c =
    let short = length-decimal-le 9 c.from.result (omega arith) (omega (arith, ints, c.requires.sample)) (omega arith) in
    omega arith

pub returns-then-sample-lt0-clause-first : goal.returns-then-sample-lt0-clause-first
returns-then-sample-lt0-clause-first c =
    let short = length-decimal-le 9 c.from.result (omega arith) (omega (arith, ints, c.requires.sample)) (omega arith) in
    omega arith

pub returns-else-sample-lt0-clause-first : goal.returns-else-sample-lt0-clause-first
returns-else-sample-lt0-clause-first c =
    let short = length-decimal-le 9 c.from.result (omega arith) (omega (arith, ints, c.requires.sample)) (omega arith) in
    omega arith

pub returns-then-sample-lt0-clause-last : goal.returns-then-sample-lt0-clause-last
returns-then-sample-lt0-clause-last c = omega (arith, c.write_before.ensures.place, c.write_digits-start.ensures.start)
