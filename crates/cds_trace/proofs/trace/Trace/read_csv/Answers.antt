use Rattle.std.proofs.Common.{◌≡◌, ◌∙◌, sym, refl, inl}
use Rattle.csv.specs.Reading.{default_config, records, strip_bom}
use Rattle.cds_trace.specs.Rows.{rows_left}
use Rattle.cds_trace.specs.TraceText.{csv_trace}
use Rattle.cds_trace.proofs.trace.Trace.read_csv.Goals as goal

pub returns-then-not-branch : goal.returns-then-not-branch
unfolding csv_trace
returns-then-not-branch c =
    let fr = c.from_reader-reader.ensures in
    let all : rows_left c.from_reader-reader.result ≡ records default_config (strip_bom c.args.bytes.now) = rw (fr.state, fr.source) refl in
    inl (rw (sym all ∙ c.in_ok-next_row.ensures.ended c.if-not-branch.true) refl)

pub returns-then-not-is_header : goal.returns-then-not-is_header
unfolding csv_trace
returns-then-not-is_header c =
    let fr = c.from_reader-reader.ensures in
    let all : rows_left c.from_reader-reader.result ≡ records default_config (strip_bom c.args.bytes.now) = rw (fr.state, fr.source) refl in
    inl (rw (sym all ∙ c.in_ok-next_row.ensures.found c.if-not-branch.false, sym c.is_header.ensures ∙ c.if-not-is_header.true) refl)

pub returns : goal.returns
unfolding csv_trace
returns c =
    let fr = c.from_reader-reader.ensures in
    let all : rows_left c.from_reader-reader.result ≡ records default_config (strip_bom c.args.bytes.now) = rw (fr.state, fr.source) refl in
    rw (sym all ∙ c.in_ok-next_row.ensures.found c.if-not-branch.false, sym c.is_header.ensures ∙ c.if-not-is_header.false) c.read_samples.ensures
