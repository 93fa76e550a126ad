use Rattle.cds_figures.proofs.tests.known_peaks_are_crossed_at_half_height_and_at_a_twentieth.Given as goal

abbrev pub ghosts-widths : goal.ghosts-widths
ghosts-widths g a = record { name = a.blank.name; parts = a.blank.parts }
