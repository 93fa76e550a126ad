use Rattle.cds_baseline.proofs.tests.a_tangent_ends_at_the_last_sample_of_the_least_slope.Given as goal

abbrev pub ghosts-tangent_of : goal.ghosts-tangent_of
ghosts-tangent_of g a = record { name = a.blank.name; parts = a.blank.parts }
