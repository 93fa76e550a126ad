use Rattle.std.proofs.Common.{◌≡◌, ◌∙◌, pos, get_or, arith, rules, refl, to_z, of_z, w32, FitsSigned}
use Rattle.std.proofs.lemmas.Int.{ints}
use Rattle.cds_trace.specs.WrittenText.{csv_text}
use Rattle.cds_trace.proofs.WrittenLaws.{csv_trace-csv_text, lines_of-last, lines_of-more}
use Rattle.cds_trace.proofs.trace.Trace.write_csv.Goals as goal

pub loop-i-preserved : goal.loop-i-preserved
loop-i-preserved c =
    let sample = get_or c.samples-samples.result.now c.loop-i.i (pos 0) in
    let fits : FitsSigned w32 (get_or c.samples-samples.result.now c.loop-i.i (pos 0)) = search rules in
    let whole : to_z w32 (of_z w32 (get_or c.samples-samples.result.now c.loop-i.i (pos 0))) ≡ get_or c.samples-samples.result.now c.loop-i.i (pos 0) = omega (arith, ints) in
    let told = lines_of-more c.loop-i.text.items _ c.period-period.result c.loop-i.i c.samples-samples.result.now sample (pos 0) c.loop-i-test.true refl c.loop-i.invariant in
    rw (c.in_ok-push_line.ensures.line, whole) told

pub returns-clause-text : goal.returns-clause-text
returns-clause-text c =
    let text = lines_of-last c.loop-i.text.items _ c.period-period.result c.loop-i.i c.samples-samples.result.now c.loop-i-test.false c.loop-i.invariant in
    rw (← c.period-period.ensures.value, ← c.samples-samples.ensures) (c.from_vec.ensures ∙ text)

pub returns-clause-stated : goal.returns-clause-stated
returns-clause-stated c =
    let text = lines_of-last c.loop-i.text.items _ c.period-period.result c.loop-i.i c.samples-samples.result.now c.loop-i-test.false c.loop-i.invariant in
    let written : c.from_vec.result ≡ csv_text c.args.self.now = rw (← c.period-period.ensures.value, ← c.samples-samples.ensures) (c.from_vec.ensures ∙ text) in
    rw written (csv_trace-csv_text c.args.self.now c.period-period.ensures.trace)
