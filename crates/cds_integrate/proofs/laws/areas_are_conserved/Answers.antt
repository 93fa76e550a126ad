use Rattle.cds_integrate.proofs.ConservationLaws.{conserves}
use Rattle.cds_integrate.proofs.laws.areas_are_conserved.Goals as goal

pub returns : goal.returns
returns c = conserves
