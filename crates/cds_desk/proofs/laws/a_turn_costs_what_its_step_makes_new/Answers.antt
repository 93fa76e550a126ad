use Rattle.cds_desk.specs.Judged.{change_of}
use Rattle.cds_desk.specs.Step.{judged}
use Rattle.cds_desk.proofs.TurnLaws.{costs_new, costs_nothing}
use Rattle.cds_desk.proofs.laws.a_turn_costs_what_its_step_makes_new.Goals as goal

pub returns-clause-new : goal.returns-clause-new
returns-clause-new c = λ state m moment.
    costs_new c.nothing_is_new_where_nothing_changed.ensures state (change_of (judged state m moment))

pub returns-clause-none : goal.returns-clause-none
returns-clause-none c = costs_nothing
