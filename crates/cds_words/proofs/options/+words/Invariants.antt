use Rattle.std.proofs.Common.{length}
use Rattle.cds_words.proofs.options.+words.Given as goal

abbrev pub decreases-given_from : goal.decreases-given_from
decreases-given_from l = length l.words.now

abbrev pub decreases-given_from_pair : goal.decreases-given_from_pair
decreases-given_from_pair l = length l.words.now
