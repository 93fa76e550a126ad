use Rattle.cds_graph.proofs.worked_rows.node_of.Given as goal

abbrev pub ghosts-node_by : goal.ghosts-node_by
ghosts-node_by a = record { name = a.blank.name; parts = a.blank.parts }
