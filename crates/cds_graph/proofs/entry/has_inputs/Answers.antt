use Rattle.cds_book.proofs.SameLaws.{same_inputs-Decides}
use Rattle.cds_graph.proofs.KeyLaws.{one-answer}
use Rattle.cds_graph.proofs.entry.has_inputs.Goals as goal

pub returns : goal.returns
returns c =
    rw (← c.as_ref.ensures)
    (one-answer _ _ c.same.ensures (same_inputs-Decides c.as_ref.result.now.inputs c.args.inputs.now))
