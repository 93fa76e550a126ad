use Rattle.std.proofs.Common.{arith, refl}
use Rattle.cds_trace.proofs.DifferenceLaws.{seven_bits-byte, seven_bits-last}
use Rattle.cds_trace.proofs.differences.push_number.Goals as goal

pub loop-number-preserved : goal.loop-number-preserved
loop-number-preserved c =
    rw c.in_ok-push.ensures.items (seven_bits-byte c.loop-number.bytes.items _ c.loop-number.number _ (omega arith) refl c.loop-number.invariant)

pub returns : goal.returns
returns c = rw c.in_ok-push-2.ensures.items (seven_bits-last c.loop-number.bytes.items _ c.loop-number.number (omega arith) c.loop-number.invariant)
