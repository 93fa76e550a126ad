use Rattle.std.proofs.Common.{◌∙◌, ap, inl, sym, Ok, Some, None}
use Rattle.cds_sign.specs.declared.command.Change.TheVariants as change
use Rattle.cds_book.specs.declared.command.Plan.TheVariants as plan
use Rattle.cds_book.proofs.TraceLaws.{planned-latest_trace, planned-other_trace}
use Rattle.cds_book.proofs.tables.Tables.plan_trace.Goals as goal

pub returns-then-is_latest_trace : goal.returns-then-is_latest_trace
returns-then-is_latest_trace c = planned-latest_trace _ _ _ _ c.signals.ensures c.if-is_latest_trace.ensures

pub returns-in-Some : goal.returns-in-Some
returns-in-Some c = inl (planned-other_trace _ _ _ _ c.signals.ensures _ (Some c.in-Some.limit) c.if-is_latest_trace.ensures c.trace_counts.ensures c.in-Some.ensures)

pub returns : goal.returns
returns c =
    planned-other_trace _ _ _ _ c.signals.ensures _ None c.if-is_latest_trace.ensures c.trace_counts.ensures c.in_default.ensures
    ∙ ap (λ signal. Ok (plan.Change (change.Trace c.args.name signal))) (sym c.in_ok-trace.ensures)
