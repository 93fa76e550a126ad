use Rattle.std.proofs.Common.{◌≡◌, ℕ, ◌*◌, ◌^◌, ◌≤◌, ◌≤ℤ◌, ◌+ℤ◌, pos, drop}
use Rattle.std.specs.Prelude.{unsigned_abs}
use Rattle.cds_integrate.specs.Measures.{riders, twice_areas}
use Rattle.cds_integrate.specs.Standing.{InRow}
use Rattle.cds_integrate.proofs.measures.taken.Given as goal

abbrev pub invariant-loop-k : goal.invariant-loop-k
invariant-loop-k l = record {
  least : pos 0 ≤ℤ l.sum;
  small : unsigned_abs l.sum ≤ 2 ^ 66 * l.k;
  row : (start : ℕ) × (end : ℕ) × InRow l.trace start (drop l.k l.later) end;
  sum : l.sum +ℤ twice_areas l.trace (riders (drop l.k l.later)) ≡ twice_areas l.trace (riders l.later);
}
