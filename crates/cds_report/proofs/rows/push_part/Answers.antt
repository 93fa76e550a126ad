use Rattle.std.proofs.Common.{◌≡◌, ◌∙◌, ◌++◌, ◌∷◌, [], ◌<◌, ap, arith, sym, subst}
use Rattle.std.specs.Prelude.{IfOk, codes, decimal}
use Rattle.cds_integrate.specs.Row.{too_many_in}
use Rattle.cds_integrate.specs.Seen.{peak_seen}
use Rattle.cds_report.specs.Lines.{line, each_numbered}
use Rattle.cds_report.specs.RowText.{peak_line}
use Rattle.cds_report.proofs.RowLaws.{found-peaks, found-many}
use Rattle.cds_report.proofs.rows.push_part.Goals as goal

pub returns-then-count-eq0 : goal.returns-then-count-eq0
returns-then-count-eq0 c =
    let none = sym c.too_many-count.ensures ∙ c.if-count-eq0.true in
    let peaks = ap (λ list. c.args.lines.now
    ++ each_numbered (λ n peak. peak_line c.args.components.now c.args.period n (peak_seen peak)) 1 list)
    c.peaks.ensures.value in
    subst (λ text. IfOk c.push_peaks.result (λ _. c.push_peaks.new.lines ≡ text))
    (peaks ∙ ap (λ text. c.args.lines.now ++ text)
    (found-peaks c.args.components.now c.args.period c.args.part.now c.requires.counted none)) c.push_peaks.ensures

pub returns : goal.returns
returns c =
    let some : 0 < too_many_in c.args.part.now = omega (arith, c.if-count-eq0.false, c.too_many-count.ensures) in
    subst (λ text. IfOk c.push_count.result (λ _. c.push_count.new.lines ≡ c.args.lines.now ++ text))
    (ap (λ count. line (codes "too many peaks") (decimal count ∷ [])) c.too_many-count.ensures
    ∙ found-many c.args.components.now c.args.period c.args.part.now some) c.push_count.ensures
