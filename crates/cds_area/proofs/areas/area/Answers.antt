use Rattle.std.proofs.Common.{◌≡◌, ◌∙◌, sym, refl, rules}
use Rattle.std.proofs.lemmas.Int.{to_z-of_z}
use mir.Syntax.{w64, w128}
use mir.Val.{SFits, to_z, of_z}
use Rattle.cds_area.specs.Area.{area_by_double_span}
use Rattle.cds_area.proofs.AreaLaws.{area-by-sum, area-split, abs-area-le, abs-sample-le}
use Rattle.cds_area.proofs.areas.area.Goals as goal

pub returns : goal.returns
returns g c =
    let signal = c.args.trace.now in
    let line = c.args.line.now in
    let fits_sides : SFits w64 c.sides-sides.result = search rules in
    let fits_levels : SFits w64 c.levels.result = search rules in
    let fits : SFits w128 c.excess.result = search rules in
    let long = c.span-span.ensures.value in
    let parts = rw (c.sides-sides.ensures.value, c.levels.ensures.value, long) at (simp to_z-of_z at c.excess.ensures) in
    let law = area-by-sum signal line c.args.start c.args.end c.requires.order c.requires.left c.requires.right c.requires.within in
    let numerator : to_z w128 (of_z w128 c.excess.result) ≡ area_by_double_span signal line c.args.start c.args.end =
    to_z-of_z w128 c.excess.result fits ∙ parts ∙ sym law in
    record {
      value = rw (numerator, c.from.ensures, long) refl;
      numerator = numerator;
      divisor = search rules;
      bounded = λ most great from_y to_y. rw (numerator, c.from.ensures, long) (abs-area-le signal line c.args.start c.args.end most (λ i inside. abs-sample-le signal most i c.len-samples.ensures.trace great inside) c.requires.left c.requires.right c.requires.within from_y to_y);
      counted = search rules;
      conserved = λ m left right. rw numerator (area-split signal line c.args.start m c.args.end left right);
    }
