use Rattle.std.proofs.Common.{◌≡◌, ◌∙◌, ◌∷◌, [], ◌++◌, ap, subst}
use Rattle.std.specs.Prelude.{IfOk, codes, decimal}
use Rattle.cds_calib.specs.declared.determination.TheConstants.{MOST_DETERMINATION}
use Rattle.cds_frac.specs.Decimals.{decimal_text}
use Rattle.cds_graph.specs.Checks.{shown_in}
use Rattle.cds_report.specs.Lines.{spaced}
use Rattle.cds_report.specs.SequenceText.{slope_of, intercept_of}
use Rattle.cds_report.specs.Words.{value_word}
use Rattle.cds_report.proofs.LineLaws.{three_parts}
use Rattle.cds_report.proofs.sequence.push_numbers.Goals as goal

pub returns : goal.returns
returns c =
    let fit = c.args.fit.now in
    let calibration = c.args.calibration.now in
    let count = codes "points" ∷ decimal c.len.result ∷ [] in
    let parts = codes "slope" ∷ decimal_text (slope_of fit) 6 ∷ codes "intercept" ∷ decimal_text (intercept_of fit) 6
    ∷ [] in
    let share = codes "r2" ∷ value_word 4 (shown_in MOST_DETERMINATION calibration.determination) ∷ [] in
    subst (λ text. IfOk c.push_determination.result (λ _. c.push_determination.new.lines ≡ text))
    (ap (λ text. text ++ spaced share)
    (c.in_ok-push_parts.ensures ∙ ap (λ text. text ++ spaced parts) c.in_ok-push_count.ensures)
    ∙ three_parts c.args.lines.now count parts share
    ∙ ap (λ n. c.args.lines.now ++ spaced (codes "points" ∷ decimal n ∷ parts ++ share)) c.len.ensures.count)
    c.push_determination.ensures
