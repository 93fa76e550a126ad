use Rattle.std.proofs.Common.{◌≡◌, ◌∙◌, ◌++◌, ◌∷◌, [], ap, subst}
use Rattle.std.specs.Prelude.{IfOk, codes, decimal}
use Rattle.cds_report.specs.Lines.{spaced}
use Rattle.cds_report.proofs.LineLaws.{line_in_parts}
use Rattle.cds_report.proofs.suitability.push_head.Goals as goal

pub returns : goal.returns
returns c =
    let name = c.args.report.now.name in
    let basis = codes "basis" ∷ decimal c.args.report.now.sequence.now.basis ∷ [] in
    subst (λ text. IfOk c.end.result (λ _. c.end.new.self ≡ text))
    (ap (λ text. text ++ codes "\n")
    (c.in_ok-push_basis.ensures ∙ ap (λ text. text ++ spaced basis) c.in_ok-push_name.ensures)
    ∙ line_in_parts c.args.lines.now (codes "suitability") (name ∷ []) basis)
    c.end.ensures
