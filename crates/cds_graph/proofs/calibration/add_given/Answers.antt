use Rattle.std.proofs.Common.{◌≡◌, ◌∙◌, None, sym, ap, append-nil, take, arith, rules}
use Rattle.cds_calib.specs.declared.point.TheConstants.{MOST_POINTS}
use Rattle.cds_graph.proofs.FoundLaws.{take-whole}
use Rattle.cds_graph.proofs.calibration.add_given.Goals as goal

pub returns-in-None : goal.returns-in-None
returns-in-None c =
    let points = c.args.points.now in
    let none : c.args.point ≡ None = search rules in
    rw none (sym (ap (take MOST_POINTS) (append-nil points)
    ∙ take-whole MOST_POINTS points (omega (arith, c.len-few.ensures.count, c.len-few.ensures.few))))
