use Rattle.std.proofs.Common.{◌≡◌, ap, arith, rules}
use Rattle.cds_rules.specs.Fields.{fields_of}
use Rattle.cds_integrate.specs.Peaks.{Found}
use Rattle.cds_integrate.proofs.PeakLaws.{kept-positive}
use Rattle.cds_integrate.proofs.StandLaws.{time-inside}
use Rattle.cds_integrate.proofs.peaks.peak_of.Goals as goal

pub returns-clause-sound : goal.returns-clause-sound
returns-clause-sound g c =
    let trace = c.len-samples.ensures.trace in
    let inside = time-inside c.args.trace.now (fields_of c.args.method.now) c.args.found trace
    c.requires.found.part.shape in
    let kept = kept-positive c.args.trace.now (fields_of c.args.method.now) c.args.found.part c.requires.found.kept in
    let part : c.found.inside.part ≡ c.args.found.part = ap (λ (f : Found). f.part) c.found.view_is in
    record {
      rises = search rules;
      falls = search rules;
      time = omega (arith, inside, c.requires.time, trace.last);
      area = rw (c.area_ratio.ensures.num, part) kept.0;
      high = rw (c.height_ratio.ensures.num, part) kept.1;
      units = search rules;
      height = search rules;
      before = search rules;
      boundary = search rules;
      half = search rules;
      twentieth = search rules;
    }
