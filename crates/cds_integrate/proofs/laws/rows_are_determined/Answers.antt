use Rattle.cds_integrate.proofs.SeenLaws.{seen-is}
use Rattle.cds_integrate.proofs.laws.rows_are_determined.Goals as goal

pub returns : goal.returns
returns c = seen-is
