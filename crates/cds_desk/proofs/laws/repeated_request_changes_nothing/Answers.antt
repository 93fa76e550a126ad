use Rattle.cds_desk.proofs.RepeatLaws.{repeated}
use Rattle.cds_desk.proofs.laws.repeated_request_changes_nothing.Goals as goal

pub returns : goal.returns
returns c = repeated c.a_change_is_what_was_asked.ensures c.a_repeated_change_changes_nothing.ensures
