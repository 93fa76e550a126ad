use Rattle.std.proofs.Common.{◌≡◌, ◌∙◌, ◌∷◌, [], ◌++◌, ap, subst}
use Rattle.std.specs.Prelude.{IfOk, Some, decimal}
use Rattle.cds_report.specs.Lines.{spaced}
use Rattle.cds_report.specs.SuitabilityText.{decimals_of}
use Rattle.cds_report.specs.Words.{check_word, component_word, row_words, value_word, verdict_word}
use Rattle.cds_report.proofs.LineLaws.{three_parts}
use Rattle.cds_report.proofs.suitability.push_words.Goals as goal

pub returns : goal.returns
returns c =
    let check = c.args.check.now in
    let held = c.args.held.now in
    let subject = decimal c.args.number ∷ check_word check.kind
    ∷ component_word c.args.components.now (Some check.component) ∷ [] in
    let answer = value_word (decimals_of check.kind) held.value ∷ verdict_word held.verdict ∷ [] in
    subst (λ text. IfOk c.push_answer.result (λ _. c.push_answer.new.lines ≡ text))
    (ap (λ text. text ++ spaced answer)
    (c.in_ok-push_of.ensures ∙ ap (λ text. text ++ spaced (row_words held.row)) c.in_ok-push_subject.ensures)
    ∙ three_parts c.args.lines.now subject (row_words held.row) answer)
    c.push_answer.ensures
