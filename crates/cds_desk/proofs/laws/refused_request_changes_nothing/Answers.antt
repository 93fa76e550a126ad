use Rattle.std.proofs.Common.{ap}
use Rattle.cds_desk.specs.State.{after_change}
use Rattle.cds_desk.proofs.RepeatLaws.{unmade}
use Rattle.cds_desk.proofs.laws.refused_request_changes_nothing.Goals as goal

pub returns : goal.returns
returns c = λ state m moment high.
    let none = unmade state m moment high in
    (none, ap (after_change state) none)
