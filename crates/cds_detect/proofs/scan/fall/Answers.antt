use Rattle.std.proofs.Common.{◌≡◌, length, arith, ap, sym, ◌∙◌}
use Rattle.cds_detect.specs.Classes.{classes, class_count}
use Rattle.cds_detect.specs.Settings.{settings_of}
use Rattle.cds_rules.specs.Fields.{fields_of}
use Rattle.cds_detect.proofs.ClassesLaws.{length-classes}
use Rattle.cds_detect.proofs.ClimbLaws.{fall-on}
use Rattle.cds_detect.proofs.scan.fall.Goals as goal

pub loop-window-preserved : goal.loop-window-preserved
loop-window-preserved g c =
    let settings = settings_of (fields_of c.args.method.now) c.args.manual.now in
    let cs = classes c.args.trace.now settings in
    let kept = c.loop-window.invariant in
    let many : length cs ≡ class_count (length c.args.trace.now.samples) c.args.method.now.bunch = length-classes c.args.trace.now settings in
    let same = ap (λ n. class_count n c.args.method.now.bunch) c.len.ensures.value in
    let on = fall-on cs c.loop-window.window.at c.loop-window.window.class (omega arith) kept.stands.class (cc) in
    record {
      stands = c.next-window-in-loop-window.ensures.stands;
      goes_on = rw (c.next-window-in-loop-window.ensures.next) (sym on ∙ kept.goes_on);
      least = omega arith;
      counted = omega arith;
    }
