use Rattle.std.proofs.Common.{◌≡◌, ◌++◌, ◌∷◌, [], subst}
use Rattle.std.specs.Prelude.{IfOk, codes, decimal}
use Rattle.cds_report.specs.Lines.{line}
use Rattle.cds_report.proofs.rows.push_count.Goals as goal

pub returns : goal.returns
returns c =
    subst (λ n. IfOk c.number_line.result (λ _.
    c.number_line.new.self ≡ c.args.lines.now ++ line (codes "too many peaks") (decimal n ∷ []))) c.from.ensures
    c.number_line.ensures
