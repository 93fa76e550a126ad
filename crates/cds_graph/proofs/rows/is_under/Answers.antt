use Rattle.cds_graph.proofs.KeyLaws.{one-answer, same_row_key-Decides}
use Rattle.cds_graph.proofs.rows.is_under.Goals as goal

pub returns : goal.returns
returns c =
    rw (← c.as_ref.ensures)
    (one-answer _ _ c.same.ensures (same_row_key-Decides c.as_ref.result.now.key c.args.key.now))
