use Rattle.std.proofs.Common.{◌∙◌, ◌≡◌, ◌^◌, ◌<◌, ap, subst, sym}
use Rattle.cds_calib.specs.Fit.{common_multiple}
use Rattle.cds_calib.proofs.LineLaws.{inverse-few, inverse-two, weights_fit-past, weighted_answer, differ-true}
use Rattle.cds_calib.proofs.points.Points.inverse_line.Goals as goal

pub returns-then-corrected_xx-eq0 : goal.returns-then-corrected_xx-eq0
returns-then-corrected_xx-eq0 c = inverse-few c.args.self.now c.corrected_xx.result c.corrected_xx.ensures.value c.if-corrected_xx-eq0.true

pub weighted_line-requires-clause-two : goal.weighted_line-requires-clause-two
weighted_line-requires-clause-two c = differ-true c.args.self.now c.corrected_xx.result c.corrected_xx.ensures.value c.if-corrected_xx-eq0.false

pub returns-in-Some : goal.returns-in-Some
returns-in-Some c =
    let same : c.in-Some.multiple ≡ common_multiple c.args.self.now = c.in-Some.ensures.1 ∙ ap common_multiple c.as_slice.ensures.items in
    c.weighted_line.ensures ∙ ap (weighted_answer c.args.self.now) same ∙ inverse-two c.args.self.now c.corrected_xx.result c.corrected_xx.ensures.value c.if-corrected_xx-eq0.false

pub returns-in-None : goal.returns-in-None
returns-in-None c =
    let past : common_multiple c.args.self.now < 2 ^ 60 → ⊥ = λ below. c.in-None.ensures (subst (λ xs. common_multiple xs < 2 ^ 60) (sym c.as_slice.ensures.items) below) in
    weights_fit-past (common_multiple c.args.self.now) c.args.self.now past ∙ inverse-two c.args.self.now c.corrected_xx.result c.corrected_xx.ensures.value c.if-corrected_xx-eq0.false
