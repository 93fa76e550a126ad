use Rattle.cds_book.proofs.StoodLaws.{sequence_of-put}
use Rattle.cds_book.proofs.laws.a_put_sequence_is_read_back.Goals as goal

pub returns : goal.returns
returns c = sequence_of-put
