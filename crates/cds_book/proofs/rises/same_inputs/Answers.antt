use Rattle.std.proofs.lemmas.Bool.Decides.{same_from_decides}
use Rattle.cds_book.proofs.SameLaws.{same_inputs-Decides}
use Rattle.cds_book.proofs.rises.same_inputs.Goals as goal

pub returns : goal.returns
returns c = same_from_decides _ _ c.same.ensures (same_inputs-Decides _ _)
