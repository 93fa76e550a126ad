use Rattle.std.proofs.Common.{◌≡◌, ◌≤◌, length, arith, ap, ◌∙◌}
use Rattle.std.proofs.Math.Nat.{div-le_self}
use Rattle.cds_detect.specs.Classes.{class_count, classes}
use Rattle.cds_detect.specs.Settings.{settings_of}
use Rattle.cds_rules.specs.Fields.{fields_of}
use Rattle.cds_detect.specs.Raw.{raw_peaks_of, answer_of, peaks_of}
use Rattle.cds_detect.proofs.SpansLaws.{later_spans-zero}
use Rattle.cds_detect.proofs.StandLaws.{all-found, length-raw_peaks_of, stand-raw_peaks_of, stand-answer_of}
use Rattle.cds_detect.proofs.detect.raw_peaks.Goals as goal

pub loop-window-init : goal.loop-window-init
loop-window-init g c =
    let signal = c.args.trace.now in
    let settings = settings_of (fields_of c.args.method.now) c.args.manual.now in
    record {
      stands = c.first-window.ensures.stands;
      found = rw (c.new-found.ensures.items, c.first-window.ensures.first) (ap (peaks_of signal settings.bunch) (later_spans-zero (classes signal settings) settings.plateau));
      least = omega arith;
      counted = omega arith;
    }

pub answer-requires : goal.answer-requires
answer-requires g c =
    let signal = c.args.trace.now in
    let bunch = c.args.method.now.bunch in
    let settings = settings_of (fields_of c.args.method.now) c.args.manual.now in
    let count = ap (λ n. class_count n bunch) c.len.ensures.value in
    let past : class_count (length signal.samples) bunch ≤ c.loop-window.window.at = omega arith in
    let found : c.loop-window.found.items ≡ raw_peaks_of signal settings = all-found signal settings c.loop-window.window.at c.loop-window.found.items past c.loop-window.invariant.found in
    let many : length (raw_peaks_of signal settings) ≤ class_count (length signal.samples) bunch = length-raw_peaks_of signal settings in
    omega (arith, many, ap length found, div-le_self (length signal.samples) bunch, c.len.ensures.trace.few)

pub returns-clause-value : goal.returns-clause-value
returns-clause-value g c =
    let signal = c.args.trace.now in
    let bunch = c.args.method.now.bunch in
    let settings = settings_of (fields_of c.args.method.now) c.args.manual.now in
    let count = ap (λ n. class_count n bunch) c.len.ensures.value in
    let past : class_count (length signal.samples) bunch ≤ c.loop-window.window.at = omega arith in
    let found : c.loop-window.found.items ≡ raw_peaks_of signal settings = all-found signal settings c.loop-window.window.at c.loop-window.found.items past c.loop-window.invariant.found in
    c.answer.ensures ∙ ap answer_of found

pub returns-clause-stand : goal.returns-clause-stand
returns-clause-stand g c =
    let signal = c.args.trace.now in
    let bunch = c.args.method.now.bunch in
    let settings = settings_of (fields_of c.args.method.now) c.args.manual.now in
    let count = ap (λ n. class_count n bunch) c.len.ensures.value in
    let past : class_count (length signal.samples) bunch ≤ c.loop-window.window.at = omega arith in
    let found : c.loop-window.found.items ≡ raw_peaks_of signal settings = all-found signal settings c.loop-window.window.at c.loop-window.found.items past c.loop-window.invariant.found in
    rw (c.answer.ensures, found) (stand-answer_of signal (raw_peaks_of signal settings) (stand-raw_peaks_of signal settings c.args.method.now.slopes.bunch_least c.len.ensures.trace.enough))
