use Rattle.std.proofs.Common.{◌∙◌, ◌++◌, ◌∷◌, [], ℕ, List, ap, rules}
use Rattle.std.specs.Prelude.{option_map}
use Rattle.cds_respond.specs.Response.{response_text}
use Rattle.cds_desk.specs.Judged.{reply_of, change_of}
use Rattle.cds_desk.specs.Turn.{stored}
use Rattle.cds_desk.proofs.TurnLaws.{kept_change, kept_record, comes_put, is_kept}
use Rattle.cds_desk.proofs.turn.carry_out.Goals as goal

pub returns-in-Ok-put-clause-comes : goal.returns-in-Ok-put-clause-comes
returns-in-Ok-put-clause-comes g c =
    let judged = c.args.judged in
    let is = kept_change (change_of judged) c.in-Ok.ready.kept c.in-Some.kept c.in-Ok.ensures.kept c.in-Some.is in
    let recorded = kept_record (change_of judged) c.in-Ok.ready.kept c.in-Some.kept c.in-Ok.ensures.kept c.in-Some.is in
    comes_put (stored c.args.state.now.held (g.K.Keeper.told c.args.keeper.now)) (stored c.apply.new.self.held (g.K.Keeper.told c.put.new.self))
    judged (response_text (reply_of judged) c.args.close c.args.without_body) c.in-Ok.ready.response
    c.in-Some.kept.change c.in-Some.kept.record is recorded (search rules) (search rules)
    (c.in-Ok-put.ensures.appended
    ∙ ap (λ (b : List ℕ). option_map (λ list. list ++ b ∷ []) (g.K.Keeper.told c.args.keeper.now).content) c.as_slice.ensures)
    (search rules) (search rules)

pub returns-in-Err-NoMemory-clause-comes : goal.returns-in-Err-NoMemory-clause-comes
returns-in-Err-NoMemory-clause-comes g c =
    let judged = c.args.judged in
    let is = kept_change (change_of judged) c.in-Ok.ready.kept c.in-Some.kept c.in-Ok.ensures.kept c.in-Some.is in
    (is_kept (change_of judged) c.in-Some.kept.change is, search rules, search rules, search rules, search rules)

pub returns-clause-comes : goal.returns-clause-comes
returns-clause-comes g c =
    let judged = c.args.judged in
    let is = kept_change (change_of judged) c.in-Ok.ready.kept c.in-Some.kept c.in-Ok.ensures.kept c.in-Some.is in
    (is_kept (change_of judged) c.in-Some.kept.change is, search rules, search rules, search rules, search rules)
