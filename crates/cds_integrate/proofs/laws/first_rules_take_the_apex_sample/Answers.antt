use Rattle.cds_integrate.proofs.TimeLaws.{at-apex}
use Rattle.cds_integrate.proofs.laws.first_rules_take_the_apex_sample.Goals as goal

pub returns : goal.returns
returns c = at-apex
