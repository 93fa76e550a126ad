use Rattle.std.proofs.Common.{rules, SFits}
use Rattle.std.specs.Int.{w128}
use Rattle.std.proofs.lemmas.Int.{to_z-of_z}
use Rattle.cds_frac.proofs.LowestTerms.{IsFrac-with_sign}
use Rattle.cds_frac.proofs.fraction.Frac.from_parts.Goals as goal

pub invariant_of-result : goal.invariant_of-result
invariant_of-result c =
    let fits : SFits w128 c.with_sign_of.result = search rules in
    rw (to_z-of_z w128 c.with_sign_of.result fits, c.with_sign_of.ensures) (IsFrac-with_sign _ c.args.size c.args.den c.requires.positive c.requires.coprime c.requires.size_in_range c.requires.den_in_range)
