use Rattle.cds_area.proofs.tests.ranges_of_known_traces_have_their_areas_and_heights.Given as goal

abbrev pub ghosts-figures : goal.ghosts-figures
ghosts-figures g a = record { name = a.blank.name; parts = a.blank.parts }
