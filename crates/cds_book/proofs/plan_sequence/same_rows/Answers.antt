use Rattle.std.proofs.lemmas.Bool.Decides.{same_from_decides}
use Rattle.cds_book.proofs.SameLaws.{same_rows-Decides}
use Rattle.cds_book.proofs.plan_sequence.same_rows.Goals as goal

pub returns : goal.returns
returns c = same_from_decides _ _ c.same.ensures (same_rows-Decides _ _)
