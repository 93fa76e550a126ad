use Rattle.cds_graph.proofs.turn_lines.changed.Given as goal

abbrev pub ghosts-prepared_by : goal.ghosts-prepared_by
ghosts-prepared_by a = record { name = a.blank.name; parts = a.blank.parts }
