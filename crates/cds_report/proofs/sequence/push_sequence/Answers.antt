use Rattle.std.proofs.Common.{◌≡◌, ◌∙◌, ◌++◌, ap, subst}
use Rattle.std.specs.Prelude.{IfOk, flat_map}
use Rattle.cds_report.specs.SequenceText.{sequence_line, method_line, listed_text, fits_text, rows_text, sequence_text}
use Rattle.cds_report.specs.Shown.{listed_kept, report_shown}
use Rattle.cds_report.proofs.LineLaws.{five_texts}
use Rattle.cds_report.proofs.sequence.push_sequence.Goals as goal

pub returns : goal.returns
unfolding sequence_text
returns c =
    let report = report_shown c.args.report.now in
    let head = sequence_line report in
    let method = method_line report.inputs in
    let listed = flat_map listed_text report.listed in
    let fits = fits_text report.fields.components report.results in
    let rows = rows_text report.fields.components report.results report.inputs.rows in
    subst (λ text. IfOk c.push_rows.result (λ _. c.push_rows.new.lines ≡ text))
    (ap (λ text. text ++ rows) (c.in_ok-push_fits.ensures
    ∙ ap (λ text. text ++ fits) (c.in_ok-push_all_listed.ensures
    ∙ ap (λ names. c.push_method.new.lines ++ flat_map listed_text (listed_kept c.args.report.now.graph.now names))
    c.as_slice.ensures
    ∙ ap (λ text. text ++ listed) (c.in_ok-push_method.ensures
    ∙ ap (λ text. text ++ method) c.in_ok-push_head.ensures)))
    ∙ five_texts c.args.lines.now head method listed fits rows)
    c.push_rows.ensures
