use Rattle.std.proofs.Common.{◌≡◌, subst, rules}
use Rattle.cds_desk.specs.Opening.{StopsAt}
use Rattle.cds_desk.proofs.OpeningLaws.{same_number, stops_here}
use Rattle.cds_desk.proofs.desk.state_of.Goals as goal

pub returns-then-not-branch-clause-damaged : goal.returns-then-not-branch-clause-damaged
returns-then-not-branch-clause-damaged g c = λ number is.
    subst (StopsAt c.args.records.now) (same_number _ _ is)
    (stops_here c.args.records.now c.loop-place.place c.loop-place.state.held c.get.result.now c.get.ensures
    c.loop-place.invariant.opens (c.in_ok-accept.ensures.refused (search rules)))
