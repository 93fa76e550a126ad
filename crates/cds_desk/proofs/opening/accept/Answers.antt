use Rattle.std.proofs.Common.{◌≡◌}
use Rattle.cds_desk.proofs.OpeningLaws.{judged_refused, unread_refused}
use Rattle.cds_desk.proofs.opening.accept.Goals as goal

pub returns-in_default-clause-refused : goal.returns-in_default-clause-refused
returns-in_default-clause-refused g c =
    λ _. unread_refused c.args.state.now.held c.args.body.now (rw c.in_default.is at c.in_ok-stated.ensures)

pub returns-in_default-2-clause-refused : goal.returns-in_default-2-clause-refused
returns-in_default-2-clause-refused g c =
    λ _. judged_refused c.args.state.now.held c.args.body.now c.in-Some.stated (rw c.in-Some.is at c.in_ok-stated.ensures)
    (rw c.in_default-2.is at c.in_ok-change.ensures.none)
