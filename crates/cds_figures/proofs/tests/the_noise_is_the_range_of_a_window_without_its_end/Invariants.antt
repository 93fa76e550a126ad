use Rattle.cds_figures.proofs.tests.the_noise_is_the_range_of_a_window_without_its_end.Given as goal

abbrev pub ghosts-noise_of : goal.ghosts-noise_of
ghosts-noise_of g a = record { name = a.blank.name; parts = a.blank.parts }
