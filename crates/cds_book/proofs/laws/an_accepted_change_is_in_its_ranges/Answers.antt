use Rattle.cds_book.proofs.ContentLaws.{IsChange-accepted}
use Rattle.cds_book.proofs.laws.an_accepted_change_is_in_its_ranges.Goals as goal

pub returns : goal.returns
returns c = λ tables change kept accepts. IsChange-accepted tables kept change accepts
