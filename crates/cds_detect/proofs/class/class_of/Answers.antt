use Rattle.std.proofs.Common.{◌≡◌, ◌*◌, false, refl}
use Rattle.std.proofs.lemmas.Int.{to_z-of_z}
use Rattle.cds_detect.specs.Settings.{settings_of}
use Rattle.cds_rules.specs.Fields.{fields_of}
use Rattle.cds_detect.specs.Slopes.{is_inhibited}
use Rattle.cds_detect.proofs.ClassesLaws.{class_of-free, is_inhibited-append}
use Rattle.cds_detect.proofs.class.class_of.Goals as goal

pub returns : goal.returns
returns c =
    let method = c.args.method.now in
    let manual = c.args.manual.now in
    let time = c.from.result * c.period-period.result in
    let first : is_inhibited method.events time ≡ false = cc in
    let second : is_inhibited manual time ≡ false = cc in
    let at : time ≡ c.args.at * method.bunch * c.args.trace.now.period = rw (c.from.ensures, c.period-period.ensures.value) refl in
    let near = c.ranges.near in
    let far = c.ranges.far in
    class_of-free c.args.trace.now (settings_of (fields_of method) manual) c.args.at time c.period-period.result c.args.near c.args.far c.slopes_at-slopes.result c.class_between.result
    at c.period-period.ensures.value (is_inhibited-append method.events manual time first second) c.slopes_at-slopes.ensures c.requires.near c.requires.far (simp to_z-of_z at c.class_between.ensures)
