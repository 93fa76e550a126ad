use Rattle.cds_desk.proofs.SessionLaws.{no_step_so}
use Rattle.cds_desk.proofs.store.open_store.Goals as goal

pub returns-clause-no_step : goal.returns-clause-no_step
returns-clause-no_step g c =
    no_step_so c.in_ok-records.records _ _ _ _ _ c.in_ok-records.ensures.loaded c.open_desk.ensures.no_step
