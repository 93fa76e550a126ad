use Rattle.std.proofs.Common.{◌≡◌, ◌∙◌, ◌++◌, ap, subst}
use Rattle.std.specs.Prelude.{IfOk}
use Rattle.cds_report.specs.Shown.{report_shown}
use Rattle.cds_report.specs.SuitabilityText.{suitability_line, checks_text, verdict_line, suitability_text}
use Rattle.cds_report.proofs.LineLaws.{three_texts}
use Rattle.cds_report.proofs.suitability.push_suitability.Goals as goal

pub returns : goal.returns
unfolding suitability_text
returns c =
    let report = report_shown c.args.report.now in
    let head = suitability_line report in
    let checks = checks_text report.fields.components report.results report.fields.checks in
    let verdict = verdict_line report.results.verdict in
    subst (λ text. IfOk c.push_verdict.result (λ _. c.push_verdict.new.lines ≡ text))
    (ap (λ text. text ++ verdict) (c.in_ok-push_checks.ensures
    ∙ ap (λ text. text ++ checks) c.in_ok-push_head.ensures)
    ∙ three_texts c.args.lines.now head checks verdict)
    c.push_verdict.ensures
