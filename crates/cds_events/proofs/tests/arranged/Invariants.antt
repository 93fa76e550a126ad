use Rattle.cds_events.proofs.tests.arranged.Given as goal

abbrev pub ghosts-arranged_by : goal.ghosts-arranged_by
ghosts-arranged_by a = record { name = a.blank.name; parts = a.blank.parts }
