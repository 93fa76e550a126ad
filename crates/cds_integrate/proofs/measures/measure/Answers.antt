use Rattle.std.proofs.Common.{◌≡◌, ◌-◌, ◌*◌, length, refl, ◌∙◌, rules}
use Rattle.std.proofs.lemmas.Int.{to_z-of_z}
use mir.Syntax.{w128}
use mir.Val.{SFits, to_z, of_z}
use Rattle.cds_trace.specs.Heights.{span, height_by_span}
use Rattle.cds_integrate.specs.Measures.{gross_area, area_of}
use Rattle.cds_integrate.specs.Standing.{most_area}
use Rattle.cds_integrate.proofs.AreaLaws.{gross-most, area-without, area-lower}
use Rattle.cds_integrate.proofs.measures.measure.Goals as goal

pub returns-clause-value : goal.returns-clause-value
returns-clause-value g c =
    let signal = c.args.trace.now in
    let shape = c.args.shape in
    let later = c.args.later.now in
    let fits : SFits w128 c.without.result = search rules in
    let fits_gross : SFits w128 c.args.gross = search rules in
    let fits_taken : SFits w128 c.taken_from-taken.result = search rules in
    let fits_height : SFits w128 c.apex_height.result = search rules in
    let parts = rw (c.line_span.ensures.value, c.requires.gross) at (simp to_z-of_z at c.without.ensures) in
    let area : to_z w128 (of_z w128 c.without.result) ≡ area_of signal shape later =
    to_z-of_z w128 c.without.result fits ∙ (parts ∙ area-without signal shape later c.taken_from-taken.result
    c.taken_from-taken.ensures.value) in
    let high : to_z w128 (of_z w128 c.apex_height.result) ≡ height_by_span signal shape.line shape.apex =
    to_z-of_z w128 c.apex_height.result fits_height ∙ c.apex_height.ensures.value in
    rw (area, high) refl

pub returns-clause-measured : goal.returns-clause-measured
returns-clause-measured g c =
    let signal = c.args.trace.now in
    let shape = c.args.shape in
    let later = c.args.later.now in
    let fits : SFits w128 c.without.result = search rules in
    let fits_gross : SFits w128 c.args.gross = search rules in
    let fits_taken : SFits w128 c.taken_from-taken.result = search rules in
    let fits_height : SFits w128 c.apex_height.result = search rules in
    let parts = rw (c.line_span.ensures.value, c.requires.gross) at (simp to_z-of_z at c.without.ensures) in
    let most = gross-most signal shape later c.requires.row.0 c.len-samples.ensures.trace c.requires.shape
    c.requires.reaches c.requires.row.1 in
    let lower = area-lower (gross_area signal shape later) c.taken_from-taken.result (span shape.line)
    (most_area (length signal.samples - 1) (2 * span shape.line)) c.taken_from-taken.ensures.least most in
    rw (to_z-of_z w128 c.without.result fits, to_z-of_z w128 c.apex_height.result fits_height) (record {
      shape = c.requires.shape;
      area = rw parts lower;
      height = c.apex_height.ensures.value;
      small = c.apex_height.ensures.small;
    })
