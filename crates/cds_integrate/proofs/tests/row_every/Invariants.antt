use Rattle.cds_integrate.proofs.tests.row_every.Given as goal

abbrev pub ghosts-row_by : goal.ghosts-row_by
ghosts-row_by a = record { name = a.blank.name; parts = a.blank.parts }
