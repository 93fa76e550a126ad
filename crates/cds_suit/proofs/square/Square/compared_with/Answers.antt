use Rattle.std.proofs.Common.{◌≡◌, ◌*◌, ◌∙◌, ap, ap₂, pos, to_z, arith}
use Rattle.std.specs.Prelude.{unsigned_abs}
use Rattle.std.specs.Int.{w128}
use Rattle.std.proofs.lemmas.Int.{to_z_pos}
use Rattle.cds_frac.specs.Fraction.{lowest_terms}
use Rattle.cds_suit.proofs.Ratios.{ratio_cmp-nat}
use Rattle.cds_suit.proofs.square.Square.compared_with.Goals as goal

pub returns : goal.returns
returns c =
    let spread = c.args.self.now.spread in
    let level = c.args.self.now.level in
    let q = c.args.q in
    let square : to_z w128 c.squared.result ≡ pos (q * q) = to_z_pos w128 c.squared.result (let h = c.squared.ensures.fits in omega arith) ∙ ap pos c.squared.ensures.value in
    ratio_cmp-nat spread level (q * q) 100000000 c.new-square.result c.new-limit.result c.cmp.result c.requires.some (omega arith)
    (c.new-square.ensures ∙ ap₂ lowest_terms (to_z_pos w128 spread (let h = c.requires.spread_fits in omega arith)) (ap unsigned_abs (to_z_pos w128 level (let h = c.requires.level_fits in omega arith))))
    (c.new-limit.ensures ∙ ap (λ z. lowest_terms z 100000000) square)
    c.cmp.ensures.cross_products
