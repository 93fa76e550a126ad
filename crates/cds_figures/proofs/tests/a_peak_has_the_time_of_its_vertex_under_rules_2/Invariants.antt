use Rattle.cds_figures.proofs.tests.a_peak_has_the_time_of_its_vertex_under_rules_2.Given as goal

abbrev pub ghosts-time_of : goal.ghosts-time_of
ghosts-time_of g a = record { name = a.blank.name; parts = a.blank.parts }
