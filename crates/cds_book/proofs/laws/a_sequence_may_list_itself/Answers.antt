use Rattle.std.proofs.Common.{refl}
use Rattle.cds_base.proofs.NamedLaws.{bytes_eq-self}
use Rattle.cds_book.specs.Judged.{each_judged, standard_judged, standards_judged}
use Rattle.cds_book.proofs.laws.a_sequence_may_list_itself.Goals as goal

pub returns : goal.returns
unfolding standards_judged each_judged standard_judged
returns c = λ tables name. rw (bytes_eq-self name) refl
