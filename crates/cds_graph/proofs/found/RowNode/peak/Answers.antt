use Rattle.std.proofs.Common.{◌∙◌, Some, None, sym, ap, find, arith}
use Rattle.cds_base.specs.declared.peak.Peak.{Peak}
use Rattle.cds_integrate.specs.Row.{IsSound}
use Rattle.cds_graph.specs.Figures.{CrossesBefore}
use Rattle.cds_graph.specs.Rows.{is_number}
use Rattle.cds_graph.proofs.FoundLaws.{find-All}
use Rattle.cds_graph.proofs.NodeLaws.{peak-found}
use Rattle.cds_graph.proofs.found.RowNode.peak.Goals as goal

pub returns-in-Some-clause-value : goal.returns-in-Some-clause-value
returns-in-Some-clause-value c =
    let test = λ (p : Peak). is_number c.args.component p.component in
    peak-found c.args.self.now.part c.args.component (Some c.in-Some.peak.now) c.args.self.now.stands.counted
    (omega (arith, c.if-too_many-gt0.false, c.too_many.ensures))
    (c.in-Some.ensures ∙ ap (find test) c.peaks.ensures.value)

pub returns-in-Some-clause-sound : goal.returns-in-Some-clause-sound
returns-in-Some-clause-sound c =
    find-All IsSound (λ (p : Peak). is_number c.args.component p.component) c.peaks.result.now c.in-Some.peak.now
    c.peaks.ensures.sound (sym c.in-Some.ensures)

pub returns-in-Some-clause-crosses : goal.returns-in-Some-clause-crosses
returns-in-Some-clause-crosses c =
    let test = λ (p : Peak). is_number c.args.component p.component in
    find-All (CrossesBefore c.args.self.now.period) test _ c.in-Some.peak.now c.args.self.now.stands.crossings
    (sym (c.in-Some.ensures ∙ ap (find test) c.peaks.ensures.value))

pub returns-in-None-clause-value : goal.returns-in-None-clause-value
returns-in-None-clause-value c =
    let test = λ (p : Peak). is_number c.args.component p.component in
    peak-found c.args.self.now.part c.args.component None c.args.self.now.stands.counted
    (omega (arith, c.if-too_many-gt0.false, c.too_many.ensures))
    (c.in-None.ensures ∙ ap (find test) c.peaks.ensures.value)
