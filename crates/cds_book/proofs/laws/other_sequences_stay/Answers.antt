use Rattle.cds_book.proofs.OtherSequences.{sequence_of-other, sequence_of-absent}
use Rattle.cds_book.proofs.laws.other_sequences_stay.Goals as goal

pub returns : goal.returns
returns c = record { there = sequence_of-other; absent = sequence_of-absent }
