use Rattle.cds_baseline.proofs.tests.valleys_on_or_above_a_chord_are_no_nodes.Given as goal

abbrev pub ghosts-nodes_of : goal.ghosts-nodes_of
ghosts-nodes_of g a = record { name = a.blank.name; parts = a.blank.parts }
