use Rattle.cds_integrate.proofs.StandLaws.{peaks-stand}
use Rattle.cds_integrate.proofs.ComponentLaws.{components}
use Rattle.cds_integrate.proofs.FewLaws.{few}
use Rattle.cds_integrate.proofs.laws.peaks_stand.Goals as goal

pub returns : goal.returns
returns c = record { stand = peaks-stand; components = components; few = few }
