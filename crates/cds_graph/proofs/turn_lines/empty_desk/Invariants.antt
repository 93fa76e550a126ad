use Rattle.cds_graph.proofs.turn_lines.empty_desk.Given as goal

abbrev pub ghosts-opened_by : goal.ghosts-opened_by
ghosts-opened_by a = record { name = a.blank.name; parts = a.blank.parts }
