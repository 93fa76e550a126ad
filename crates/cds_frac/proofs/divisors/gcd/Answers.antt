use Rattle.std.proofs.Common.{◌≡◌, arith}
use Rattle.std.proofs.lemmas.Nat.Gcd.{IsGcd-from_zero}
use Rattle.cds_frac.proofs.Coprime.{gcd_step, gcd_pos}
use Rattle.cds_frac.proofs.divisors.gcd.Goals as goal

pub loop-small-preserved : goal.loop-small-preserved
loop-small-preserved c = gcd_step c.args.a c.args.b c.loop-small.large c.loop-small.small c.loop-small.invariant

pub returns : goal.returns
returns c =
    let none : c.loop-small.small ≡ 0 = omega arith in
    let is = c.loop-small.invariant c.loop-small.large (IsGcd-from_zero c.loop-small.large c.loop-small.small none) in
    record { greatest = is; positive = gcd_pos c.args.a c.args.b c.loop-small.large is }
