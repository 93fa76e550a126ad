use Rattle.cds_trace.proofs.tests.given_samples_are_kept_or_refused.Given as goal

abbrev pub ghosts-middle : goal.ghosts-middle
ghosts-middle g a = record { name = a.blank.name; parts = a.blank.parts }
