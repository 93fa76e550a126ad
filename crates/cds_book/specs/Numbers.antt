-- The numbers of a sequence that change with it. This project's own.
use Rattle.cds_sign.specs.declared.sequence.Sequence.{Sequence}
use Rattle.cds_book.specs.declared.numbers.SequenceNumbers.{SequenceNumbers}

-- the edition and the basis of a sequence
abbrev pub numbers_of : Sequence → SequenceNumbers
numbers_of sequence = record { edition = sequence.edition; basis = sequence.basis }
