use Rattle.std.proofs.Common.{FitsSigned, pos, ap, ap₂, ◌∙◌, rules}
use Rattle.std.specs.Int.{w128}
use Rattle.std.specs.Ordering.{is_ge}
use Rattle.std.specs.Prelude.{unsigned_abs}
use Rattle.std.proofs.lemmas.Int.{to_z-of_z}
use Rattle.cds_frac.specs.Fraction.{lowest_terms}
use Rattle.cds_suit.proofs.Ratios.{ratio_cmp-right}
use Rattle.cds_suit.proofs.checks.is_at_least.Goals as goal

pub returns : goal.returns
returns c =
    let value = c.args.value.now in
    let top_fits : FitsSigned w128 c.from.result = search rules in
    let bottom_fits : FitsSigned w128 c.from-2.result = search rules in
    let top = to_z-of_z w128 c.from.result top_fits ∙ c.from.ensures in
    let bottom = ap unsigned_abs (to_z-of_z w128 c.from-2.result bottom_fits ∙ c.from-2.ensures) in
    c.is_ge.ensures ∙ ap is_ge (c.cmp.ensures.cross_products ∙ ratio_cmp-right value.num (pos c.args.limit) value.den c.args.parts c.new.result c.requires (c.new.ensures ∙ ap₂ lowest_terms top bottom))
