use Rattle.std.proofs.Common.{◌≡◌, ◌*◌, ◌^◌, ◌<◌, ◌∙◌, ap, ap₂, pos, to_z, arith}
use Rattle.std.specs.Prelude.{unsigned_abs}
use Rattle.std.specs.Int.{w128}
use Rattle.std.proofs.lemmas.Nat.{mul-lt}
use Rattle.std.proofs.lemmas.Int.{to_z_pos}
use Rattle.cds_frac.specs.Fraction.{lowest_terms}
use Rattle.cds_calib.proofs.Reached.{reaches_is}
use Rattle.cds_calib.proofs.determination.SpreadReaching.reaches.Goals as goal

pub returns : goal.returns
returns c =
    let xx = c.args.self.now.xx in
    let xy = c.args.self.now.xy in
    let yy = c.args.self.now.yy in
    let q = c.args.q in
    let product : xx * q < 2 ^ 72 * 2 ^ 32 = mul-lt xx q (2 ^ 72) (2 ^ 32) c.requires.xx_fits (let r = c.ranges.q in omega arith) in
    let above : to_z w128 (c.from.result * xy) ≡ pos (10000 * xy) = ap (λ k. to_z w128 (k * xy)) c.from.ensures ∙ to_z_pos w128 (10000 * xy) (omega arith) in
    let below : to_z w128 (xx * c.from-2.result) ≡ pos (xx * q) = ap (λ k. to_z w128 (xx * k)) c.from-2.ensures ∙ to_z_pos w128 (xx * q) (omega arith) in
    c.ne.ensures
    ∙ reaches_is q xx yy xy c.new-explained.result c.new-total.result c.cmp.result c.requires.xx_some c.requires.xy_some c.if-q-eq0.false
    (c.new-explained.ensures ∙ ap₂ lowest_terms above (ap unsigned_abs below))
    (c.new-total.ensures ∙ ap₂ lowest_terms (to_z_pos w128 yy (omega arith)) (ap unsigned_abs (to_z_pos w128 xy (omega arith))))
    c.cmp.ensures.cross_products
