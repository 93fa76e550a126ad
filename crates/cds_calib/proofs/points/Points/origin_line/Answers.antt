use Rattle.std.proofs.Common.{◌∙◌, sym}
use Rattle.std.proofs.lemmas.Bool.{false≢true}
use Rattle.cds_calib.proofs.LineLaws.{IsFit-origin}
use Rattle.cds_calib.proofs.points.Points.origin_line.Goals as goal

pub invariant_of-result : goal.invariant_of-result
invariant_of-result c =
    IsFit-origin c.args.self.now c.sums-sums.result c.sums-sums.ensures.shape (λ e. false≢true (sym c.if-is_empty.false ∙ c.is_empty.ensures.1 e))
    c.sums-sums.ensures.sums c.sums-sums.ensures.small c.if-sums-eq0.false
