use Rattle.std.proofs.Common.{◌≡◌, true, false, sym, ap, ◌∙◌, pos, rules}
use Rattle.std.specs.Prelude.{not, ◌&&◌, int_lt}
use Rattle.std.proofs.lemmas.Int.{to_z-of_z}
use mir.Syntax.{w128}
use mir.Val.{SFits}
use Rattle.cds_rules.specs.Fields.{fields_of}
use Rattle.cds_integrate.specs.Measures.{is_rejected}
use Rattle.cds_integrate.proofs.peaks.is_valley_between.Goals as goal

pub returns-then-kept : goal.returns-then-kept
returns-then-kept c =
    let plain : (not c.args.before.shape.rider && not c.args.part.shape.rider) ≡ true =
    sym c.are_plain.ensures ∙ c.if-are_plain.true in
    let kept : is_rejected c.args.trace.now (fields_of c.args.method.now) c.args.before ≡ false =
    sym c.is_rejected-kept.ensures ∙ c.if-kept.true in
    let fits : SFits w128 c.args.boundary = search rules in
    let above = rw (to_z-of_z w128 c.args.boundary fits) at c.is_above-above.ensures in
    rw (plain, kept) (above ∙ ap (int_lt (pos 0)) c.requires.boundary)
