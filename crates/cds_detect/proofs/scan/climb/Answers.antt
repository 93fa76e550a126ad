use Rattle.std.proofs.Common.{◌≡◌, ◌≤◌, length, arith, ap, sym, ◌∙◌, refl}
use Rattle.cds_detect.specs.Classes.{classes, class_count}
use Rattle.cds_detect.specs.Settings.{settings_of}
use Rattle.cds_rules.specs.Fields.{fields_of}
use Rattle.cds_detect.specs.Spans.{ends_climb}
use Rattle.cds_detect.proofs.ClassesLaws.{length-classes}
use Rattle.cds_trace.proofs.LeastLaws.{least-end}
use Rattle.cds_detect.proofs.ClimbLaws.{climb-on, climb-ends, flat_run-start}
use Rattle.cds_detect.proofs.scan.climb.Goals as goal

pub loop-window-init : goal.loop-window-init
loop-window-init g c =
    let cs = classes c.args.trace.now (settings_of (fields_of c.args.method.now) c.args.manual.now) in
    record {
      stands = c.next-window.ensures.stands;
      after = omega arith;
      flats = rw (c.next-window.ensures.next) (sym (flat_run-start cs c.args.start.at));
      goes_on = rw (c.next-window.ensures.next) refl;
      least = omega arith;
      counted = omega arith;
    }

pub loop-window-preserved : goal.loop-window-preserved
loop-window-preserved g c =
    let settings = settings_of (fields_of c.args.method.now) c.args.manual.now in
    let cs = classes c.args.trace.now settings in
    let kept = c.loop-window.invariant in
    let many : length cs ≡ class_count (length c.args.trace.now.samples) c.args.method.now.bunch = length-classes c.args.trace.now settings in
    let same = ap (λ n. class_count n c.args.method.now.bunch) c.len.ensures.value in
    let on = climb-on cs c.args.start.at c.args.method.now.plateau c.loop-window.window.at c.loop-window.flats c.in-Some.more c.loop-window.window.class (omega arith) kept.after kept.stands.class kept.flats c.in-Some.ensures in
    record {
      stands = c.next-window-in-loop-window.ensures.stands;
      after = omega arith;
      flats = rw (c.next-window-in-loop-window.ensures.next) on.1;
      goes_on = rw (c.next-window-in-loop-window.ensures.next) (sym on.0 ∙ kept.goes_on);
      least = omega arith;
      counted = omega arith;
    }

pub returns-in_default-clause-place : goal.returns-in_default-clause-place
returns-in_default-clause-place g c =
    let settings = settings_of (fields_of c.args.method.now) c.args.manual.now in
    let cs = classes c.args.trace.now settings in
    let kept = c.loop-window.invariant in
    let many : length cs ≡ class_count (length c.args.trace.now.samples) c.args.method.now.bunch = length-classes c.args.trace.now settings in
    let same = ap (λ n. class_count n c.args.method.now.bunch) c.len.ensures.value in
    sym (climb-ends cs c.args.start.at c.args.method.now.plateau c.loop-window.window.at c.loop-window.flats c.loop-window.window.class (omega arith) kept.after kept.stands.class kept.flats (cc)) ∙ kept.goes_on

pub returns-clause-place : goal.returns-clause-place
returns-clause-place g c =
    let settings = settings_of (fields_of c.args.method.now) c.args.manual.now in
    let cs = classes c.args.trace.now settings in
    let kept = c.loop-window.invariant in
    let many : length cs ≡ class_count (length c.args.trace.now.samples) c.args.method.now.bunch = length-classes c.args.trace.now settings in
    let same = ap (λ n. class_count n c.args.method.now.bunch) c.len.ensures.value in
    let past : length cs ≤ c.loop-window.window.at = omega arith in
    let within : c.loop-window.window.at ≤ length cs = omega (arith, kept.stands.within, many) in
    let ends = least-end (ends_climb cs c.args.method.now.plateau c.args.start.at) c.loop-window.window.at (length cs) past in
    let there : c.loop-window.window.at ≡ length cs = omega arith in
    there ∙ (sym ends ∙ kept.goes_on)
