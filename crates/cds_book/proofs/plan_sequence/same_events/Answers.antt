use Rattle.std.proofs.lemmas.Bool.Decides.{same_from_decides}
use Rattle.cds_book.proofs.SameLaws.{same_events-Decides}
use Rattle.cds_book.proofs.plan_sequence.same_events.Goals as goal

pub returns : goal.returns
returns c = same_from_decides _ _ c.same.ensures (same_events-Decides _ _)
