use Rattle.std.proofs.Common.{◌≡◌, ap, sym, subst, ◌∙◌, rules, unsigned_abs, SFits}
use Rattle.std.specs.Int.{w128}
use Rattle.std.proofs.lemmas.Int.{to_z-of_z}
use Rattle.cds_frac.specs.Divisors.{AreCoprime}
use Rattle.cds_frac.proofs.LowestTerms.{times_in_range, times_past_range}
use Rattle.cds_frac.proofs.fraction.Frac.times.Goals as goal

pub product_parts-parts-requires-clause-coprime : goal.product_parts-parts-requires-clause-coprime
product_parts-parts-requires-clause-coprime c =
    let fits : SFits w128 c.self.inside.num = search rules in
    let size : c.unsigned_abs-size.result ≡ unsigned_abs c.self.inside.num = c.unsigned_abs-size.ensures.value ∙ ap unsigned_abs (to_z-of_z w128 c.self.inside.num fits) in
    subst (λ m. AreCoprime m c.self.inside.den) (sym size) c.self.invariant.reduced.1

pub returns-in_default : goal.returns-in_default
returns-in_default c =
    let fits : SFits w128 c.self.inside.num = search rules in
    let size : c.unsigned_abs-size.result ≡ unsigned_abs c.self.inside.num = c.unsigned_abs-size.ensures.value ∙ ap unsigned_abs (to_z-of_z w128 c.self.inside.num fits) in
    let none = c.in_default.ensures.too_large in
    rw (← c.self.view_is) (times_past_range (record { num = c.self.inside.num; den = c.self.inside.den }) c.unsigned_abs-size.result c.args.u c.args.v c.self.invariant c.requires size (rw (c.from.ensures, c.from-2.ensures) at none))

pub returns : goal.returns
returns c =
    let fits : SFits w128 c.self.inside.num = search rules in
    let size : c.unsigned_abs-size.result ≡ unsigned_abs c.self.inside.num = c.unsigned_abs-size.ensures.value ∙ ap unsigned_abs (to_z-of_z w128 c.self.inside.num fits) in
    let some = c.in-Some.ensures in
    let parts = rw (c.from.ensures, c.from-2.ensures) at some.parts in
    rw (← c.self.view_is) (times_in_range (record { num = c.self.inside.num; den = c.self.inside.den }) c.from_parts.result _ c.unsigned_abs-size.result c.args.u c.args.v c.in-Some.size c.in-Some.den c.self.invariant c.requires size (to_z-of_z w128 c.self.inside.num fits) parts some.in_range.0 some.in_range.1 c.from_parts.ensures)
