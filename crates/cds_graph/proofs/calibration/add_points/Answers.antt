use Rattle.std.proofs.Common.{◌≡◌, ◌∙◌, ◌++◌, length, sym, ap, append-nil, take, arith}
use Rattle.std.specs.List.{filter_map}
use Rattle.std.specs.Prelude.{option_to_list}
use Rattle.std.proofs.Math.Seq.{take-length}
use Rattle.cds_calib.specs.declared.point.TheConstants.{MOST_POINTS}
use Rattle.cds_rules.specs.Fields.{fields_of}
use Rattle.cds_graph.specs.declared.found.FoundStandard.{FoundStandard as HeldStandard}
use Rattle.cds_graph.specs.declared.method.MethodNode.{MethodNode}
use Rattle.cds_graph.specs.Held.{standard_shown}
use Rattle.cds_graph.specs.Points.{point_of}
use Rattle.cds_graph.proofs.FoundLaws.{filter_map-seen, take-whole}
use Rattle.cds_graph.proofs.PointLaws.{point-more}
use Rattle.cds_graph.proofs.calibration.add_points.Goals as goal

pub loop-standard-init : goal.loop-standard-init
loop-standard-init c =
    let points = c.args.points.now in
    sym (ap (take MOST_POINTS) (append-nil points)
    ∙ take-whole MOST_POINTS points (omega (arith, c.len-few.ensures.count, c.len-few.ensures.few)))

pub loop-standard-preserved : goal.loop-standard-preserved
loop-standard-preserved c =
    let fields = fields_of c.args.listed.now.method.value.method in
    let gives = λ (s : HeldStandard). point_of c.args.name fields (standard_shown s) in
    let row : HeldStandard = c.standard-item.result in
    let given : c.point_of-point.result ≡ gives row =
    c.point_of-point.ensures.value
    ∙ ap (λ (m : MethodNode). point_of c.args.name (fields_of m.method) (standard_shown row)) c.as_ref-method.ensures in
    point-more c.args.points.now gives c.as_slice-rows.result.now c.loop-standard.standard-index row
    c.loop-standard.points _ c.loop-standard-test.true c.standard-item.is
    (c.add_given.ensures ∙ ap (λ o. take MOST_POINTS (c.loop-standard.points ++ option_to_list o)) given)
    c.loop-standard.invariant

pub returns : goal.returns
returns c =
    let fields = fields_of c.args.listed.now.method.value.method in
    let gives = λ (s : HeldStandard). point_of c.args.name fields (standard_shown s) in
    let rows = c.as_slice-rows.result.now in
    let whole : c.loop-standard.standard-index ≡ length rows =
    omega (arith, c.loop-standard-test.false, c.loop-standard.auto.standard-index-end) in
    c.loop-standard.invariant
    ∙ ap (λ rs. take MOST_POINTS (c.args.points.now ++ filter_map gives rs))
    (ap (λ k. take k rows) whole ∙ take-length rows ∙ c.as_slice-rows.ensures.value)
    ∙ ap (λ ps. take MOST_POINTS (c.args.points.now ++ ps))
    (sym (filter_map-seen (point_of c.args.name fields) standard_shown c.args.listed.now.rows.items))
