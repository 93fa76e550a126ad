use Rattle.std.proofs.Common.{◌<◌, length, arith, ap}
use Rattle.std.proofs.lemmas.Int.{to_z-of_z}
use Rattle.cds_detect.specs.Classes.{class_count}
use Rattle.cds_detect.specs.Settings.{settings_of}
use Rattle.cds_rules.specs.Fields.{fields_of}
use Rattle.cds_detect.proofs.WindowLaws.{stands-here}
use Rattle.cds_detect.proofs.scan.first.Goals as goal

pub returns-clause-stands : goal.returns-clause-stands
returns-clause-stands g c =
    let here : 0 < class_count (length c.args.trace.now.samples) c.args.method.now.bunch = omega (arith, ap (λ n. class_count n c.args.method.now.bunch) c.len.ensures.value) in
    stands-here c.args.trace.now (settings_of (fields_of c.args.method.now) c.args.manual.now) _
    here c.class_of.ensures (grind (arith, to_z-of_z)) (grind (arith, to_z-of_z)) (grind (arith, to_z-of_z)) (grind (arith, to_z-of_z))
