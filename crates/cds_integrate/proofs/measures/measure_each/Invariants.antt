use Rattle.std.proofs.Common.{◌≡◌, ℕ, ◌+◌, ◌++◌, drop, All}
use Rattle.cds_integrate.specs.Measures.{measured}
use Rattle.cds_integrate.specs.Standing.{InRow, IsMeasured}
use Rattle.cds_integrate.proofs.measures.measure_each.Given as goal

abbrev pub invariant-loop-k : goal.invariant-loop-k
invariant-loop-k g l = record {
  items : l.parts.items ++ measured l.trace (drop l.k l.shapes) ≡ measured l.trace l.shapes;
  measured : All (IsMeasured l.trace) l.parts.items;
  row : (start : ℕ) × (end : ℕ) × InRow l.trace start (drop l.k l.shapes) end;
  counted : l.steps ≡ l.fn.steps + l.k;
}
