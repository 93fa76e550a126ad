use Rattle.std.proofs.Common.{length, arith, inl, refl, ap, Some, None}
use Rattle.cds_book.proofs.MethodLaws.{few_texts, planned-no_draft, planned-latest_text, planned-other_number, planned-next_number}
use Rattle.cds_book.proofs.tables.Tables.plan_freeze.Goals as goal

pub returns-in_default : goal.returns-in_default
returns-in_default c = inl (planned-no_draft _ _ _ c.in_default.ensures)

pub returns-then-is_latest_text : goal.returns-then-is_latest_text
returns-then-is_latest_text c = planned-latest_text _ _ _ _ c.in-Some.ensures _ c.texts-texts.ensures c.if-is_latest_text.ensures

-- a method has at most 1,000 versions
pub overflow_cast-next : goal.overflow_cast-next
overflow_cast-next c =
    let few = few_texts _ c.rules.ensures c.args.name in
    let same = ap length c.texts-texts.ensures in
    omega (arith, few, same)

pub overflow_add-next : goal.overflow_add-next
overflow_add-next c =
    let few = few_texts _ c.rules.ensures c.args.name in
    let same = ap length c.texts-texts.ensures in
    omega (arith, few, same)

pub returns-then-version-next : goal.returns-then-version-next
returns-then-version-next c = inl (planned-other_number _ _ _ _ c.in-Some.ensures _ c.texts-texts.ensures _ c.if-is_latest_text.ensures refl c.if-version-next.true)

pub returns-in-Some-limit_passed : goal.returns-in-Some-limit_passed
returns-in-Some-limit_passed c = inl (planned-next_number _ _ _ _ c.in-Some.ensures _ c.texts-texts.ensures _ (Some c.in-Some-limit_passed.limit) c.if-is_latest_text.ensures c.if-version-next.false c.freeze_counts.ensures c.in-Some-limit_passed.ensures)

pub returns : goal.returns
returns c = planned-next_number _ _ _ _ c.in-Some.ensures _ c.texts-texts.ensures _ None c.if-is_latest_text.ensures c.if-version-next.false c.freeze_counts.ensures c.in_default-limit_passed.ensures
