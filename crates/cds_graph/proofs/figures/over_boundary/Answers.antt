use Rattle.std.proofs.Common.{◌∙◌, ◌<◌, sym, ap, unsigned_abs, rules}
use Rattle.cds_integrate.specs.Seen.{ratio_seen}
use Rattle.cds_graph.specs.Figures.{over_boundary}
use Rattle.cds_graph.proofs.FigureLaws.{over_boundary-is}
use Rattle.cds_graph.proofs.figures.over_boundary.Goals as goal

pub returns : goal.returns
returns c =
    let some : 0 < unsigned_abs c.args.boundary.num = search rules in
    c.peak_valley.ensures ∙ sym (over_boundary-is c.smaller.result c.args.boundary some)
    ∙ ap (λ height. over_boundary height (ratio_seen c.args.boundary)) c.smaller.ensures.value
