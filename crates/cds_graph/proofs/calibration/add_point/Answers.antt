use Rattle.std.proofs.Common.{◌∙◌, ◌++◌, ◌∷◌, [], sym, arith}
use Rattle.std.proofs.lemmas.List.{length-append, take-append-le}
use Rattle.cds_calib.specs.declared.point.TheConstants.{MOST_POINTS}
use Rattle.cds_graph.proofs.FoundLaws.{insert-end, take-whole}
use Rattle.cds_graph.proofs.calibration.add_point.Goals as goal

pub returns-then-count-lt-MOST_POINTS : goal.returns-then-count-lt-MOST_POINTS
returns-then-count-lt-MOST_POINTS c =
    let points = c.args.points.now in
    c.add.ensures ∙ insert-end points c.args.point c.len-count.result c.len-count.ensures.count
    ∙ sym (take-whole MOST_POINTS (points ++ c.args.point ∷ []) (omega (
      arith,
      length-append points (c.args.point ∷ []),
      c.len-count.ensures.count,
      c.if-count-lt-MOST_POINTS.true,
    )))

pub returns-else-count-lt-MOST_POINTS : goal.returns-else-count-lt-MOST_POINTS
returns-else-count-lt-MOST_POINTS c =
    let points = c.args.points.now in
    sym (take-append-le MOST_POINTS points (c.args.point ∷ []) (omega (
      arith,
      c.len-count.ensures.count,
      c.if-count-lt-MOST_POINTS.false,
    ))
    ∙ take-whole MOST_POINTS points (omega (arith, c.len-count.ensures.count, c.len-count.ensures.few)))
