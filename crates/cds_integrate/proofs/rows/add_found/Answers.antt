use Rattle.std.proofs.Common.{◌≡◌, ◌++◌, None, ◌∙◌, ap, arith}
use Rattle.std.proofs.lemmas.List.Sums.{sum_by-append}
use Rattle.cds_rules.specs.Fields.{fields_of}
use Rattle.cds_integrate.specs.Measures.{measured}
use Rattle.cds_integrate.specs.Peaks.{accepted}
use Rattle.cds_integrate.specs.Standing.{widths}
use Rattle.cds_integrate.proofs.FoundLaws.{width_of, kept-widths, row-count}
use Rattle.cds_integrate.proofs.rows.add_found.Goals as goal

pub measure_all-requires-clause-few : goal.measure_all-requires-clause-few
measure_all-requires-clause-few g c =
    let cluster = c.args.cluster.now in
    rw c.as_slice-shapes.ensures.value (omega (
      arith,
      row-count c.args.trace.now c.in_ok-row.row.items cluster.start cluster.end c.in_ok-row.ensures.row,
      c.requires.cluster.ends,
      c.len-samples.ensures.trace.few,
    ))

pub returns-in_err-measured-clause-most : goal.returns-in_err-measured-clause-most
returns-in_err-measured-clause-most g c =
    let cluster = c.args.cluster.now in
    let many = row-count c.args.trace.now c.in_ok-row.row.items cluster.start cluster.end c.in_ok-row.ensures.row in
    let most = rw c.as_slice-shapes.ensures.value at c.measure_all.ensures.most in
    omega (arith, many, most, c.shapes_of.ensures.most)

pub returns-in_err-add_accepted-clause-most : goal.returns-in_err-add_accepted-clause-most
returns-in_err-add_accepted-clause-most g c =
    let cluster = c.args.cluster.now in
    let many = row-count c.args.trace.now c.in_ok-row.row.items cluster.start cluster.end c.in_ok-row.ensures.row in
    let most = rw c.as_slice-shapes.ensures.value at c.measure_all.ensures.most in
    omega (arith, many, most, c.shapes_of.ensures.most)

pub returns-clause-most : goal.returns-clause-most
returns-clause-most g c =
    let cluster = c.args.cluster.now in
    let many = row-count c.args.trace.now c.in_ok-row.row.items cluster.start cluster.end c.in_ok-row.ensures.row in
    let most = rw c.as_slice-shapes.ensures.value at c.measure_all.ensures.most in
    omega (arith, many, most, c.shapes_of.ensures.most)

pub returns-clause-wide : goal.returns-clause-wide
returns-clause-wide g c =
    let signal = c.args.trace.now in
    let fields = fields_of c.args.method.now in
    let cluster = c.args.cluster.now in
    let old = c.args.found.now.items in
    let parts : c.as_slice-parts.result.now ≡ measured signal c.in_ok-row.row.items =
    c.as_slice-parts.ensures.value ∙ (c.in_ok-measured.ensures.value ∙ ap
    (measured signal) c.as_slice-shapes.ensures.value) in
    let value : c.add_accepted.new.found.items ≡ old ++ accepted signal fields (measured signal c.in_ok-row.row.items) =
    c.in_ok-add_accepted.ensures.value ∙ ap (λ xs. old ++ accepted signal fields xs) parts in
    let new = ap widths value ∙ sum_by-append width_of old (accepted signal fields
    (measured signal c.in_ok-row.row.items)) in
    omega (
      arith,
      new,
      kept-widths signal fields None c.in_ok-row.row.items cluster.start cluster.end
          c.in_ok-row.ensures.row,
    )
