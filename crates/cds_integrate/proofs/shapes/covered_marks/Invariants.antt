use Rattle.std.proofs.Common.{◌≡◌, ◌++◌, map, take, vec_len}
use Rattle.cds_rules.specs.Fields.{fields_of}
use Rattle.cds_integrate.specs.Shapes.{is_covered}
use Rattle.cds_integrate.proofs.shapes.covered_marks.Given as goal

abbrev pub invariant-loop-part : goal.invariant-loop-part
invariant-loop-part l =
    (l.marks.items ≡ map (is_covered l.trace ((fields_of l.method).events ++ l.manual)) (take l.part-index l.parts)) ×
    (vec_len l.marks ≡ l.part-index)
