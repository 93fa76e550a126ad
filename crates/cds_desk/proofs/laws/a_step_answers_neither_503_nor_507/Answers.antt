use Rattle.cds_desk.proofs.StatusLaws.{step_status}
use Rattle.cds_desk.proofs.laws.a_step_answers_neither_503_nor_507.Goals as goal

pub returns : goal.returns
returns c = step_status
