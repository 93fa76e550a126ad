use Rattle.std.proofs.Common.{rules}
use Rattle.cds_rules.specs.Fields.{fields_of}
use Rattle.cds_integrate.proofs.ComponentLaws.{components}
use Rattle.cds_integrate.proofs.FewLaws.{few}
use Rattle.cds_integrate.proofs.SeenLaws.{seen-is}
use Rattle.cds_integrate.proofs.StandLaws.{peaks-stand}
use Rattle.cds_integrate.proofs.ConservationLaws.{conserves}
use Rattle.cds_integrate.proofs.rows.row.Goals as goal

pub peaks_from-requires-clause-stand : goal.peaks_from-requires-clause-stand
peaks_from-requires-clause-stand g c =
    rw c.as_slice-raw.ensures (rw c.in-List.is at c.in_ok-number.ensures.stand)

pub returns-in_err-number-clause-conserved : goal.returns-in_err-number-clause-conserved
returns-in_err-number-clause-conserved g c =
    conserves c.args.trace.now (fields_of c.args.method.now) c.args.manual.now c.len-samples.ensures.trace

pub returns-in_err-peaks-clause-conserved : goal.returns-in_err-peaks-clause-conserved
returns-in_err-peaks-clause-conserved g c =
    conserves c.args.trace.now (fields_of c.args.method.now) c.args.manual.now c.len-samples.ensures.trace

pub returns-clause-conserved : goal.returns-clause-conserved
returns-clause-conserved g c =
    conserves c.args.trace.now (fields_of c.args.method.now) c.args.manual.now c.len-samples.ensures.trace

pub returns-in-TooMany-clause-conserved : goal.returns-in-TooMany-clause-conserved
returns-in-TooMany-clause-conserved g c =
    conserves c.args.trace.now (fields_of c.args.method.now) c.args.manual.now c.len-samples.ensures.trace

pub returns-clause-components : goal.returns-clause-components
returns-clause-components g c =
    components c.args.trace.now (fields_of c.args.method.now) c.args.manual.now c.of_peaks.result (search rules)

pub returns-clause-few : goal.returns-clause-few
returns-clause-few g c =
    few c.args.trace.now (fields_of c.args.method.now) c.args.manual.now c.of_peaks.result c.len-samples.ensures.trace
    (search rules)

pub returns-clause-plain : goal.returns-clause-plain
returns-clause-plain g c =
    seen-is c.args.trace.now (fields_of c.args.method.now) c.args.manual.now c.of_peaks.result
    c.len-samples.ensures.trace (search rules)

pub returns-in-TooMany-clause-plain : goal.returns-in-TooMany-clause-plain
returns-in-TooMany-clause-plain g c =
    seen-is c.args.trace.now (fields_of c.args.method.now) c.args.manual.now c.of_too_many.result
    c.len-samples.ensures.trace (search rules)

pub returns-clause-stand : goal.returns-clause-stand
returns-clause-stand g c =
    peaks-stand c.args.trace.now (fields_of c.args.method.now) c.args.manual.now c.of_peaks.result
    c.len-samples.ensures.trace (search rules)
