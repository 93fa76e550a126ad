use Rattle.cds_names.proofs.Existence.{exactly_one_naming}
use Rattle.cds_names.proofs.laws.there_is_exactly_one_naming.Goals as goal

pub returns : goal.returns
returns c = exactly_one_naming
