use Rattle.std.proofs.Common.{ℕ}
use Rattle.std.specs.Int.{IsGcd}
use Rattle.cds_frac.proofs.divisors.gcd.Given as goal

-- a common divisor of what is left is one of the two numbers
abbrev pub invariant-loop-small : goal.invariant-loop-small
invariant-loop-small l = (g : ℕ) → IsGcd l.large l.small g → IsGcd l.fn.a l.fn.b g

abbrev pub decreases-loop-small : goal.decreases-loop-small
decreases-loop-small l = l.small
