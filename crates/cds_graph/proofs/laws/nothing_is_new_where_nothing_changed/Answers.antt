use Rattle.cds_graph.proofs.KeyLaws.{fresh-none}
use Rattle.cds_graph.proofs.laws.nothing_is_new_where_nothing_changed.Goals as goal

pub returns : goal.returns
returns c = fresh-none
