use Rattle.std.proofs.Common.{refl}
use Rattle.std.proofs.lemmas.Bool.Decides.{same_from_decides}
use Rattle.std.proofs.lemmas.Slice.Eq.{slice_eq-Decides, bytes_eq-Decides}
use Rattle.cds_book.proofs.plan_sequence.same_names.Goals as goal

pub returns : goal.returns
returns c = same_from_decides _ _ c.same.ensures (slice_eq-Decides bytes_eq-Decides _ _ _ refl)
