use Rattle.std.proofs.Common.{arith, inl}
use Rattle.std.proofs.lemmas.Bool.Decides.{nat_tests}
use Rattle.cds_trace.specs.GivenSamples.{given_trace}
use Rattle.cds_trace.proofs.LimitLaws.{All-in_range}
use Rattle.cds_trace.proofs.trace.Trace.from_samples.Goals as goal

pub returns-then-samples : goal.returns-then-samples
unfolding given_trace
returns-then-samples c = inl (grind (arith, nat_tests))

pub returns-then-samples-2 : goal.returns-then-samples-2
unfolding given_trace
returns-then-samples-2 c = inl (grind (arith, nat_tests))

pub returns-then-period-eq0 : goal.returns-then-period-eq0
unfolding given_trace
returns-then-period-eq0 c = inl (grind (arith, nat_tests))

pub returns-in-Some : goal.returns-in-Some
unfolding given_trace
returns-in-Some c = inl (grind (arith, nat_tests))

pub returns : goal.returns
unfolding given_trace
returns c = grind (arith, nat_tests)

pub of_samples-requires : goal.of_samples-requires
of_samples-requires c =
    rw c.in_ok-from_slice.ensures.items (record {
      enough = omega arith;
      few = omega arith;
      samples = All-in_range c.args.samples.now (cc);
      period = omega arith;
      last = omega arith;
    })
