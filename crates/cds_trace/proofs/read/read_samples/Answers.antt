use Rattle.std.proofs.Common.{◌≡◌, ◌∙◌, sym, arith, rules, true, inl, to_z, of_z, w32, FitsSigned}
use Rattle.std.proofs.lemmas.Int.{ints}
use Rattle.std.specs.Result.{is_ok}
use Rattle.cds_trace.specs.Rows.{rows_left}
use Rattle.cds_trace.proofs.TextLaws.{IsTold-first, IsTold-IsTrace, IsTold-last, IsTold-long, IsTold-more, IsTold-wrong, Gives-err}
use Rattle.cds_trace.proofs.read.read_samples.Goals as goal

pub loop-index-init : goal.loop-index-init
loop-index-init c =
    record { reading = c.requires; small = omega arith; told = IsTold-first (rows_left c.args.reader.now) _ c.in_ok-samples.ensures.items }

pub finished-requires : goal.finished-requires
finished-requires c two =
    IsTold-IsTrace (rows_left c.args.reader.now) c.loop-index.index c.loop-index.period c.loop-index.samples.items _ c.loop-index.invariant.told (c.in_ok-next_row.ensures.ended c.if-not-branch.true) two

pub returns-then-not-branch : goal.returns-then-not-branch
returns-then-not-branch c =
    rw (IsTold-last (rows_left c.args.reader.now) c.loop-index.index c.loop-index.period c.loop-index.samples.items _ c.loop-index.invariant.told (c.in_ok-next_row.ensures.ended c.if-not-branch.true)) c.finished.ensures

pub returns-in_err-sample_of : goal.returns-in_err-sample_of
returns-in_err-sample_of c =
    let wrong = rw c.period_at-period.ensures.value at (sym c.in_err-sample_of.was ∙ c.sample_of.ensures) in
    Gives-err _ c.in_err-sample_of.field-0.0 _ c.from_residual-in_err-sample_of.ensures.1
    (IsTold-wrong (rows_left c.args.reader.now) c.loop-index.index c.loop-index.period c.loop-index.samples.items _ _ _ _ c.loop-index.invariant.told (c.in_ok-next_row.ensures.found c.if-not-branch.false) wrong)

pub loop-index-preserved : goal.loop-index-preserved
loop-index-preserved c =
    let good : is_ok c.push.result ≡ true = search rules in
    let items = rw good at c.push.ensures.items in
    let fits : FitsSigned w32 c.in_ok-sample_of.field-0 = search rules in
    let whole : to_z w32 (of_z w32 c.in_ok-sample_of.field-0) ≡ c.in_ok-sample_of.field-0 = omega (arith, ints) in
    let ok = rw c.period_at-period.ensures.value at (sym c.in_ok-sample_of.was ∙ c.sample_of.ensures) in
    record {
      reading = c.in_ok-next_row.ensures.reading c.if-not-branch.false;
      small = c.period_at-period.ensures.size;
      told = rw (items, whole, c.period_at-period.ensures.value) (IsTold-more (rows_left c.args.reader.now) c.loop-index.index c.loop-index.period c.loop-index.samples.items _ _ _ _ c.loop-index.invariant.told (c.in_ok-next_row.ensures.found c.if-not-branch.false) ok);
    }

pub returns-then-branch : goal.returns-then-branch
returns-then-branch c =
    inl (IsTold-long (rows_left c.args.reader.now) c.loop-index.index c.loop-index.period c.loop-index.samples.items _ _ _ c.loop-index.invariant.told (c.in_ok-next_row-2.ensures.found c.if-branch.true) (omega arith))

pub finished-requires-2 : goal.finished-requires-2
finished-requires-2 c two =
    IsTold-IsTrace (rows_left c.args.reader.now) c.loop-index.index c.loop-index.period c.loop-index.samples.items _ c.loop-index.invariant.told (c.in_ok-next_row-2.ensures.ended c.if-branch.false) two

pub returns : goal.returns
returns c =
    rw (IsTold-last (rows_left c.args.reader.now) c.loop-index.index c.loop-index.period c.loop-index.samples.items _ c.loop-index.invariant.told (c.in_ok-next_row-2.ensures.ended c.if-branch.false)) c.finished-2.ensures
