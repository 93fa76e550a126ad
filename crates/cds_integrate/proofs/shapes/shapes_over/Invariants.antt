use Rattle.std.proofs.Common.{◌≡◌, ℕ, ◌+◌, ◌*◌, ◌≤◌, ◌++◌, map, take, All}
use Rattle.cds_base.specs.Tiles.{Tiles}
use Rattle.cds_rules.specs.Fields.{fields_of}
use Rattle.cds_integrate.specs.Shapes.{shape_of}
use Rattle.cds_integrate.specs.Standing.{IsShape}
use Rattle.cds_integrate.proofs.PartLaws.{reached}
use Rattle.cds_integrate.proofs.shapes.shapes_over.Given as goal

abbrev pub invariant-loop-part : goal.invariant-loop-part
invariant-loop-part g l = record {
  items : l.shapes.items ≡ map (shape_of l.trace ((fields_of l.method).events ++ l.manual) l.nodes)
      (take l.part-index l.parts);
  shapes : All (IsShape l.trace) l.shapes.items;
  least : l.fn.steps ≤ l.steps;
  counted : (start end : ℕ) → Tiles start l.parts end →
      l.steps + 4 * start ≤ l.fn.steps + 4 * reached start (take l.part-index l.parts);
}
