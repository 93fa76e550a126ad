use Rattle.cds_book.proofs.AgainLaws.{kept-again}
use Rattle.cds_book.proofs.laws.a_repeated_signature_is_kept.Goals as goal

pub returns : goal.returns
returns c = λ tables sequence number basis moment name meaning text accepts.
    kept-again tables sequence number basis moment name meaning text accepts.accepted
