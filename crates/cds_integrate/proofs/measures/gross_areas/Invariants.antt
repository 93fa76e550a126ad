use Rattle.std.proofs.Common.{◌≡◌, ℕ, ◌+◌, ◌*◌, ◌^◌, ◌<◌, ◌++◌, drop, vec_len, All}
use Rattle.std.specs.Prelude.{unsigned_abs}
use Rattle.cds_integrate.specs.Measures.{gross_areas}
use Rattle.cds_integrate.specs.Standing.{InRow}
use Rattle.cds_integrate.proofs.measures.gross_areas.Given as goal

abbrev pub invariant-loop-k : goal.invariant-loop-k
invariant-loop-k g l = record {
  items : l.areas.items ++ gross_areas l.trace (drop l.k l.shapes) ≡ gross_areas l.trace l.shapes;
  small : All (λ a. unsigned_abs a < 2 ^ 66) l.areas.items;
  len : vec_len l.areas ≡ l.k;
  row : (start : ℕ) × (end : ℕ) × InRow l.trace start (drop l.k l.shapes) end;
  counted : l.steps ≡ l.fn.steps + 4 * l.k;
}
