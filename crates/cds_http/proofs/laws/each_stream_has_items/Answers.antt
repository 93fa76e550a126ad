-- The stream is read message by message.
use Rattle.std.proofs.Common.{◌∙◌, Some, None, sym, arith}
use Rattle.cds_http.proofs.TotalityLemmas.{IsFurther, goes_on_from, one_further}
use Rattle.cds_http.proofs.laws.each_stream_has_items.Goals as goal
use Rattle.cds_http.proofs.laws.each_stream_has_items.Goals.{In-Some}

pub returns-in_default : goal.returns-in_default
returns-in_default c =
    c.loop-size.invariant.goes_on
    (goes_on_from c.args.bytes.now c.loop-size.at c.look-known.result None c.look-known.ensures (sym c.in_default.is ∙ c.passed.ensures) c.args.ended)

further : (c : In-Some) → IsFurther c.args.bytes.now c.args.ended c.loop-size.at c.in-Some.size
further c =
    one_further c.args.bytes.now c.loop-size.at c.in-Some.size c.args.ended c.loop-size.invariant.in_range
    (goes_on_from c.args.bytes.now c.loop-size.at c.look-known.result (Some c.in-Some.size) c.look-known.ensures (sym c.in-Some.is ∙ c.passed.ensures))
    c.loop-size.invariant.goes_on

pub loop-size-smaller : goal.loop-size-smaller
loop-size-smaller c = omega (arith, (further c).0, (further c).1)

pub loop-size-preserved : goal.loop-size-preserved
loop-size-preserved c = record { in_range = (further c).1; goes_on = (further c).2 }
