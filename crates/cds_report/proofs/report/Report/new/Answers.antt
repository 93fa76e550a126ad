use Rattle.std.proofs.Common.{◌≡◌, Some, None, sym, rules}
use Rattle.cds_book.specs.Tables.{sequence_of}
use Rattle.cds_graph.specs.GraphLooks.{inputs_named, fields_named}
use Rattle.cds_rules.specs.Fields.{fields_of}
use Rattle.cds_report.proofs.ReportLaws.{reported-is, few-rows, has-inputs}
use Rattle.cds_report.proofs.report.Report.new.Goals as goal

pub returns-in_err-inputs-clause-value : goal.returns-in_err-inputs-clause-value
returns-in_err-inputs-clause-value c =
    let t = c.args.tables.now.state in
    let there : sequence_of t c.args.name ≡ Some c.in_ok-sequence.sequence.now = search rules in
    let none : inputs_named c.args.graph.now c.args.name ≡ None = search rules in
    absurd (has-inputs t c.args.graph.now c.args.name c.in_ok-sequence.sequence.now
    (c.look_ups_are_those_of_the_tables.ensures.inputs t c.args.graph.now c.args.name c.requires) there none)

pub returns-clause-value : goal.returns-clause-value
returns-clause-value c =
    let t = c.args.tables.now.state in
    let g = c.args.graph.now in
    let there : sequence_of t c.args.name ≡ Some c.in_ok-sequence.sequence.now = search rules in
    let held : Some c.in_ok-inputs.inputs.now ≡ inputs_named g c.args.name = search rules in
    let stated : Some (fields_of c.in_ok-method.method.now) ≡ fields_named g c.args.name = search rules in
    sym (reported-is t g c.args.name c.in_ok-sequence.sequence.now c.in_ok-inputs.inputs.now
    (fields_of c.in_ok-method.method.now)
    (λ n. c.look_ups_are_those_of_the_tables.ensures.inputs t g n c.requires)
    (c.look_ups_are_those_of_the_tables.ensures.fields t g c.args.name c.requires)
    (c.look_ups_are_those_of_the_tables.ensures.results t g c.args.name c.requires) there held stated)

pub returns-clause-few : goal.returns-clause-few
returns-clause-few c =
    let t = c.args.tables.now.state in
    let g = c.args.graph.now in
    let there : sequence_of t c.args.name ≡ Some c.in_ok-sequence.sequence.now = search rules in
    let held : Some c.in_ok-inputs.inputs.now ≡ inputs_named g c.args.name = search rules in
    few-rows t g c.args.name c.in_ok-sequence.sequence.now c.in_ok-inputs.inputs.now c.rules.ensures
    (c.look_ups_are_those_of_the_tables.ensures.inputs t g c.args.name c.requires) there held
