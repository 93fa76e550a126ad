use Rattle.std.proofs.Common.{arith}
use Rattle.cds_trace.proofs.NumberLaws.{digits_fit}
use Rattle.cds_trace.proofs.number.digits_number.Goals as goal

pub overflow_mul-value : goal.overflow_mul-value
overflow_mul-value c = omega (arith, digits_fit c.loop-byte.value c.loop-byte.byte-index c.loop-byte.invariant.size (omega arith))

pub overflow_add-value : goal.overflow_add-value
overflow_add-value c = omega (arith, digits_fit c.loop-byte.value c.loop-byte.byte-index c.loop-byte.invariant.size (omega arith))

pub returns-clause-size : goal.returns-clause-size
returns-clause-size c = digits_fit c.loop-byte.value c.loop-byte.byte-index c.loop-byte.invariant.size (omega arith)
