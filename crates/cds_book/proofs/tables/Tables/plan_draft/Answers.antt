use Rattle.std.proofs.Common.{◌∙◌, ap, inl, sym, Ok, Some, None}
use Rattle.cds_sign.specs.declared.command.Change.TheVariants as change
use Rattle.cds_book.specs.declared.command.Plan.TheVariants as plan
use Rattle.cds_book.proofs.MethodLaws.{planned-same_draft, planned-other_draft}
use Rattle.cds_book.proofs.tables.Tables.plan_draft.Goals as goal

pub returns-then-is_draft : goal.returns-then-is_draft
returns-then-is_draft c = planned-same_draft _ _ _ _ c.as_slice.ensures _ c.draft.ensures c.if-is_draft.ensures

pub returns-in-Some : goal.returns-in-Some
returns-in-Some c = inl (planned-other_draft _ _ _ _ c.as_slice.ensures _ c.draft.ensures _ (Some c.in-Some.limit) c.if-is_draft.ensures c.draft_counts.ensures c.in-Some.ensures)

pub returns : goal.returns
returns c =
    planned-other_draft _ _ _ _ c.as_slice.ensures _ c.draft.ensures _ None c.if-is_draft.ensures c.draft_counts.ensures c.in_default.ensures
    ∙ ap (λ text. Ok (plan.Change (change.Draft c.args.name text))) (sym (c.from_vec-text.ensures ∙ c.in_ok-from_slice.ensures.items ∙ c.as_slice-2.ensures))
