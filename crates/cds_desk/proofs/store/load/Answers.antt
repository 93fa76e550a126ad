use Rattle.std.proofs.Common.{◌≡◌, ◌∙◌, Err, ap, rules}
use Rattle.cds_desk.proofs.SessionLaws.{load_damaged}
use Rattle.cds_desk.proofs.store.load.Goals as goal

pub returns-in-Err-Damaged-clause-unopened : goal.returns-in-Err-Damaged-clause-unopened
returns-in-Err-Damaged-clause-unopened g c =
    let found = c.load.ensures.damage c.in-Err-Damaged.number (c.in-Err-Damaged.is ∙ ap Err c.in-Err-Damaged.field-0-is) in
    let sent = rw c.in-Err-Damaged.number-is at c.tell_damage.ensures.sent in
    load_damaged _ _ _ _ _ c.in-Err-Damaged.number c.load.ensures.called (search rules) found sent
