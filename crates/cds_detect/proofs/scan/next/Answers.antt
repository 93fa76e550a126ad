use Rattle.std.proofs.Common.{◌≡◌, ◌+◌, ◌<◌, length, arith, ap, refl}
use Rattle.std.proofs.lemmas.Int.{to_z-of_z}
use Rattle.cds_detect.specs.Classes.{class_count}
use Rattle.cds_detect.specs.Settings.{settings_of}
use Rattle.cds_rules.specs.Fields.{fields_of}
use Rattle.cds_detect.proofs.WindowLaws.{stands-here, stands-past}
use Rattle.cds_detect.proofs.scan.next.Goals as goal

pub returns-then-at-count-clause-stands : goal.returns-then-at-count-clause-stands
returns-then-at-count-clause-stands g c =
    let past : c.args.window.at + 1 ≡ class_count (length c.args.trace.now.samples) c.args.method.now.bunch = omega (arith, ap (λ n. class_count n c.args.method.now.bunch) c.len.ensures.value) in
    stands-past c.args.trace.now (settings_of (fields_of c.args.method.now) c.args.manual.now) _
    past refl (grind (arith, to_z-of_z)) (grind (arith, to_z-of_z))

pub returns-clause-stands : goal.returns-clause-stands
returns-clause-stands g c =
    let here : c.args.window.at + 1 < class_count (length c.args.trace.now.samples) c.args.method.now.bunch = omega (arith, ap (λ n. class_count n c.args.method.now.bunch) c.len.ensures.value) in
    stands-here c.args.trace.now (settings_of (fields_of c.args.method.now) c.args.manual.now) _
    here c.class_of.ensures (grind (arith, to_z-of_z)) (grind (arith, to_z-of_z)) (grind (arith, to_z-of_z)) (grind (arith, to_z-of_z))
