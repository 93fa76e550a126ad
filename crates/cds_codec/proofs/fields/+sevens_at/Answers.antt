use Rattle.std.proofs.Common.{◌-◌, arith}
use Rattle.cds_codec.proofs.SevenLaws.{sevens-size, some_power, five_sevens}
use Rattle.cds_codec.proofs.fields.+sevens_at.Goals as goal

pub returns-then-byte-lt-SEVEN_BITS-clause-size : goal.returns-then-byte-lt-SEVEN_BITS-clause-size
returns-then-byte-lt-SEVEN_BITS-clause-size n c =
    let size = sevens-size c.args.turns c.from-byte.result 0 (omega arith) (omega arith)
    (some_power (c.args.turns - 1)) in
    omega (arith, size)

pub overflow_mul-result : goal.overflow_mul-result
overflow_mul-result n c =
    let size = sevens-size c.args.turns 0 c.in_ok-high.high (omega arith) (omega arith) c.in_ok-high.ensures.size in
    omega (arith, size, five_sevens c.args.turns c.requires)

pub overflow_add-result : goal.overflow_add-result
overflow_add-result n c =
    let size = sevens-size c.args.turns (c.from-byte.result - 128) c.in_ok-high.high (omega arith)
    (omega (arith, c.in_ok-byte.ensures.size)) c.in_ok-high.ensures.size in
    omega (arith, size, five_sevens c.args.turns c.requires)

pub returns-clause-size : goal.returns-clause-size
returns-clause-size n c =
    sevens-size c.args.turns (c.from-byte.result - 128) c.in_ok-high.high (omega arith)
    (omega (arith, c.in_ok-byte.ensures.size)) c.in_ok-high.ensures.size
