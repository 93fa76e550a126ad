use Rattle.std.proofs.Common.{◌+◌, ◌<◌, ◌≤◌, ◌++◌, length, arith, refl, ap}
use Rattle.cds_detect.specs.Classes.{class_count}
use Rattle.cds_detect.specs.Settings.{settings_of}
use Rattle.cds_rules.specs.Fields.{fields_of}
use Rattle.cds_detect.specs.Raw.{end_sample}
use Rattle.cds_detect.proofs.PlaceLaws.{end_sample-within}
use Rattle.cds_detect.proofs.TurnLaws.{turn-ended, turn-start, turn-top, turn-abandoned, turn-down, turn-peak, end_sample-rises, turned}
use Rattle.cds_detect.proofs.detect.turn.Goals as goal

pub returns-then-start-class_count-clause-found : goal.returns-then-start-class_count-clause-found
returns-then-start-class_count-clause-found g c =
    let signal = c.args.trace.now in
    let bunch = c.args.method.now.bunch in
    let settings = settings_of (fields_of c.args.method.now) c.args.manual.now in
    let k = c.args.window.at in
    let s = c.find_up-start.result.at in
    let low : k ≤ s = turn-start signal settings k s c.requires.here c.find_up-start.ensures.place in
    let count = ap (λ n. class_count n bunch) c.len.ensures.value in
    let past : class_count (length signal.samples) bunch ≤ s = omega arith in
    ap (λ peaks. c.args.found.now.items ++ peaks) (turn-ended signal settings k s c.requires.here c.find_up-start.ensures.place past)

pub returns-then-start-class_count-clause-counted : goal.returns-then-start-class_count-clause-counted
returns-then-start-class_count-clause-counted g c =
    let signal = c.args.trace.now in
    let bunch = c.args.method.now.bunch in
    let settings = settings_of (fields_of c.args.method.now) c.args.manual.now in
    let k = c.args.window.at in
    let s = c.find_up-start.result.at in
    let low : k ≤ s = turn-start signal settings k s c.requires.here c.find_up-start.ensures.place in
    let count = ap (λ n. class_count n bunch) c.len.ensures.value in
    let within : s ≤ class_count (length signal.samples) bunch = c.find_up-start.ensures.stands.within in
    let later : end_sample signal bunch k ≤ end_sample signal bunch s = end_sample-rises signal bunch k s c.args.method.now.slopes.bunch_least c.requires.here low within in
    omega arith

pub returns-then-not-is_down-clause-on : goal.returns-then-not-is_down-clause-on
returns-then-not-is_down-clause-on g c =
    let signal = c.args.trace.now in
    let bunch = c.args.method.now.bunch in
    let settings = settings_of (fields_of c.args.method.now) c.args.manual.now in
    let k = c.args.window.at in
    let s = c.find_up-start.result.at in
    let low : k ≤ s = turn-start signal settings k s c.requires.here c.find_up-start.ensures.place in
    let count = ap (λ n. class_count n bunch) c.len.ensures.value in
    let here : s < class_count (length signal.samples) bunch = omega arith in
    let top = c.climb-top.result.at in
    let rises : s < top = turn-top signal settings s top here c.climb-top.ensures.place in
    omega arith

pub returns-then-not-is_down-clause-found : goal.returns-then-not-is_down-clause-found
returns-then-not-is_down-clause-found g c =
    let signal = c.args.trace.now in
    let bunch = c.args.method.now.bunch in
    let settings = settings_of (fields_of c.args.method.now) c.args.manual.now in
    let k = c.args.window.at in
    let s = c.find_up-start.result.at in
    let low : k ≤ s = turn-start signal settings k s c.requires.here c.find_up-start.ensures.place in
    let count = ap (λ n. class_count n bunch) c.len.ensures.value in
    let here : s < class_count (length signal.samples) bunch = omega arith in
    let top = c.climb-top.result.at in
    let rises : s < top = turn-top signal settings s top here c.climb-top.ensures.place in
    ap (λ peaks. c.args.found.now.items ++ peaks) (turn-abandoned signal settings k s top c.climb-top.result.class c.requires.here c.find_up-start.ensures.place c.climb-top.ensures.place c.climb-top.ensures.stands.class (cc))

pub returns-then-not-is_down-clause-counted : goal.returns-then-not-is_down-clause-counted
returns-then-not-is_down-clause-counted g c =
    let signal = c.args.trace.now in
    let bunch = c.args.method.now.bunch in
    let settings = settings_of (fields_of c.args.method.now) c.args.manual.now in
    let k = c.args.window.at in
    let s = c.find_up-start.result.at in
    let low : k ≤ s = turn-start signal settings k s c.requires.here c.find_up-start.ensures.place in
    let count = ap (λ n. class_count n bunch) c.len.ensures.value in
    let here : s < class_count (length signal.samples) bunch = omega arith in
    let top = c.climb-top.result.at in
    let rises : s < top = turn-top signal settings s top here c.climb-top.ensures.place in
    let within : top ≤ class_count (length signal.samples) bunch = c.climb-top.ensures.stands.within in
    let later : end_sample signal bunch k ≤ end_sample signal bunch top = end_sample-rises signal bunch k top c.args.method.now.slopes.bunch_least c.requires.here (omega arith) within in
    omega arith

pub fall-end-requires-clause-here : goal.fall-end-requires-clause-here
fall-end-requires-clause-here g c =
    turn-down c.args.trace.now (settings_of (fields_of c.args.method.now) c.args.manual.now) c.climb-top.result.at c.climb-top.result.class c.climb-top.ensures.stands.class (cc)

pub keep-requires-clause-order : goal.keep-requires-clause-order
keep-requires-clause-order g c =
    let settings = settings_of (fields_of c.args.method.now) c.args.manual.now in
    let count = ap (λ n. class_count n c.args.method.now.bunch) c.len.ensures.value in
    let turn = turned c.args.trace.now settings c.args.window.at c.find_up-start.result.at c.climb-top.result.at
    c.fall-end.result.at c.climb-top.result.class c.args.method.now.slopes.bunch_least c.len.ensures.trace.enough
    c.requires.here c.find_up-start.ensures.place (omega arith) c.climb-top.ensures.place
    c.climb-top.ensures.stands.class (cc) c.fall-end.ensures.place c.fall-end.ensures.stands.within in
    omega (arith, turn.far)

pub keep-requires-clause-end : goal.keep-requires-clause-end
keep-requires-clause-end g c =
    let signal = c.args.trace.now in
    let bunch = c.args.method.now.bunch in
    let end = c.fall-end.result.at in
    let within : end ≤ class_count (length signal.samples) bunch = c.fall-end.ensures.stands.within in
    let last : end_sample signal bunch end + 1 ≤ length signal.samples = end_sample-within signal bunch end c.args.method.now.slopes.bunch_least c.len.ensures.trace.enough within in
    omega arith

pub returns-in_err-keep-clause-bounded : goal.returns-in_err-keep-clause-bounded
returns-in_err-keep-clause-bounded g c =
    let settings = settings_of (fields_of c.args.method.now) c.args.manual.now in
    let count = ap (λ n. class_count n c.args.method.now.bunch) c.len.ensures.value in
    let turn = turned c.args.trace.now settings c.args.window.at c.find_up-start.result.at c.climb-top.result.at
    c.fall-end.result.at c.climb-top.result.class c.args.method.now.slopes.bunch_least c.len.ensures.trace.enough
    c.requires.here c.find_up-start.ensures.place (omega arith) c.climb-top.ensures.place
    c.climb-top.ensures.stands.class (cc) c.fall-end.ensures.place c.fall-end.ensures.stands.within in
    omega (arith, turn.low, turn.rises, turn.falls, turn.near, turn.far, turn.last)

pub returns-clause-on : goal.returns-clause-on
returns-clause-on g c =
    let settings = settings_of (fields_of c.args.method.now) c.args.manual.now in
    let count = ap (λ n. class_count n c.args.method.now.bunch) c.len.ensures.value in
    let turn = turned c.args.trace.now settings c.args.window.at c.find_up-start.result.at c.climb-top.result.at
    c.fall-end.result.at c.climb-top.result.class c.args.method.now.slopes.bunch_least c.len.ensures.trace.enough
    c.requires.here c.find_up-start.ensures.place (omega arith) c.climb-top.ensures.place
    c.climb-top.ensures.stands.class (cc) c.fall-end.ensures.place c.fall-end.ensures.stands.within in
    omega (arith, turn.low, turn.rises, turn.falls)

pub returns-clause-found : goal.returns-clause-found
returns-clause-found g c =
    let signal = c.args.trace.now in
    let bunch = c.args.method.now.bunch in
    let settings = settings_of (fields_of c.args.method.now) c.args.manual.now in
    let k = c.args.window.at in
    let s = c.find_up-start.result.at in
    let low : k ≤ s = turn-start signal settings k s c.requires.here c.find_up-start.ensures.place in
    let count = ap (λ n. class_count n bunch) c.len.ensures.value in
    let here : s < class_count (length signal.samples) bunch = omega arith in
    turn-peak signal settings k s c.climb-top.result.at c.fall-end.result.at _ c.end_sample-to.result c.climb-top.result.class c.args.found.now.items _ c.requires.here c.find_up-start.ensures.place c.climb-top.ensures.place c.climb-top.ensures.stands.class (cc) c.fall-end.ensures.place refl c.end_sample-to.ensures c.in_ok-keep.ensures.found

pub returns-clause-counted : goal.returns-clause-counted
returns-clause-counted g c =
    let settings = settings_of (fields_of c.args.method.now) c.args.manual.now in
    let count = ap (λ n. class_count n c.args.method.now.bunch) c.len.ensures.value in
    let turn = turned c.args.trace.now settings c.args.window.at c.find_up-start.result.at c.climb-top.result.at
    c.fall-end.result.at c.climb-top.result.class c.args.method.now.slopes.bunch_least c.len.ensures.trace.enough
    c.requires.here c.find_up-start.ensures.place (omega arith) c.climb-top.ensures.place
    c.climb-top.ensures.stands.class (cc) c.fall-end.ensures.place c.fall-end.ensures.stands.within in
    omega (arith, turn.low, turn.rises, turn.falls, turn.near, turn.far)

pub returns-clause-bounded : goal.returns-clause-bounded
returns-clause-bounded g c =
    let settings = settings_of (fields_of c.args.method.now) c.args.manual.now in
    let count = ap (λ n. class_count n c.args.method.now.bunch) c.len.ensures.value in
    let turn = turned c.args.trace.now settings c.args.window.at c.find_up-start.result.at c.climb-top.result.at
    c.fall-end.result.at c.climb-top.result.class c.args.method.now.slopes.bunch_least c.len.ensures.trace.enough
    c.requires.here c.find_up-start.ensures.place (omega arith) c.climb-top.ensures.place
    c.climb-top.ensures.stands.class (cc) c.fall-end.ensures.place c.fall-end.ensures.stands.within in
    omega (arith, turn.low, turn.rises, turn.falls, turn.near, turn.far, turn.last)
