use Rattle.cds_desk.proofs.TurnLaws.{served_ok, broken_err}
use Rattle.cds_desk.proofs.desk.Desk.serve.Goals as goal

pub returns-clause-served : goal.returns-clause-served
returns-clause-served g c =
    let asks = rw c.bytes.ensures at c.asked_in-asked.ensures in
    rw (← c.self.view_is) (served_ok _ _ _ _ _ _ _ _ _ asks c.answer-turned.ensures.comes c.answer-turned.ensures.steps c.answer-turned.ensures.asks c.answer-turned.ensures.told c.write_answer.ensures.whole)

pub returns-clause-broken : goal.returns-clause-broken
returns-clause-broken g c =
    let asks = rw c.bytes.ensures at c.asked_in-asked.ensures in
    rw (← c.self.view_is) (broken_err _ _ _ _ _ _ _ _ _ asks c.answer-turned.ensures.comes c.answer-turned.ensures.steps c.answer-turned.ensures.asks c.answer-turned.ensures.told c.write_answer.ensures.prefix)
