use Rattle.std.proofs.Common.{◌≡◌, ◌∙◌, ◌++◌, ◌∷◌, [], Some, ap, sym, option_map, rules}
use Rattle.std.specs.Prelude.{codes}
use Rattle.cds_report.specs.Dates.{date_of}
use Rattle.cds_report.specs.Lines.{line}
use Rattle.cds_report.specs.Reported.{reported_of}
use Rattle.cds_report.specs.SequenceText.{sequence_text}
use Rattle.cds_report.specs.Shown.{report_shown}
use Rattle.cds_report.specs.SignedText.{Signature, signed_line, signed_text}
use Rattle.cds_report.specs.SuitabilityText.{suitability_text}
use Rattle.cds_report.proofs.LineLaws.{five_texts, four_before}
use Rattle.cds_report.proofs.signed.signed_text.Goals as goal

pub returns : goal.returns
unfolding signed_text
returns c =
    let report = report_shown c.in-Some.report in
    let by = line (codes "by") (c.args.name.now ∷ []) in
    let meaning = line (codes "meaning") (c.args.meaning.now ∷ []) in
    let signed = signed_line c.args.number report in
    let date : c.as_bytes.result.now ≡ date_of c.args.moment = search rules in
    let reports = sequence_text report ++ suitability_text report in
    let there : Some report ≡ reported_of c.args.tables.now.state c.args.sequence = search rules in
    let signature : Signature = record {
      number = c.args.number;
      name = c.args.name.now;
      meaning = c.args.meaning.now;
      moment = c.args.moment;
    } in
    ap Some (c.into_bytes.ensures
    ∙ c.in_ok-push_reports.ensures
    ∙ ap (λ text. text ++ reports) (c.in_ok-push_one-3.ensures
    ∙ ap (λ text. text ++ line (codes "at") (c.as_bytes.result.now ∷ [])) (c.in_ok-push_one-2.ensures
    ∙ ap (λ text. text ++ meaning) (c.in_ok-push_one.ensures
    ∙ ap (λ text. text ++ by) (c.in_ok-push_signed.ensures ∙ ap (λ text. text ++ signed) c.new-lines.ensures))))
    ∙ ap (λ d. ((((([] ++ signed) ++ by) ++ meaning) ++ line (codes "at") (d ∷ [])) ++ reports)) date
    ∙ five_texts [] signed by meaning (line (codes "at") (date_of c.args.moment ∷ [])) reports
    ∙ sym (four_before signed by meaning (line (codes "at") (date_of c.args.moment ∷ [])) reports))
    ∙ ap (option_map (signed_text signature)) there
