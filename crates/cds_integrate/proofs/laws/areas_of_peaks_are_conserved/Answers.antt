use Rattle.cds_integrate.proofs.PeakSums.{sums}
use Rattle.cds_integrate.proofs.laws.areas_of_peaks_are_conserved.Goals as goal

pub returns : goal.returns
returns c = sums
