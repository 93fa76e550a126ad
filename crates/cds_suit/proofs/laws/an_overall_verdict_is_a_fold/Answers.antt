use Rattle.cds_suit.proofs.Fold.{overall_of-append}
use Rattle.cds_suit.proofs.laws.an_overall_verdict_is_a_fold.Goals as goal

pub returns : goal.returns
returns c = overall_of-append
