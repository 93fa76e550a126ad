use Rattle.std.proofs.Common.{◌≡◌, ◌-◌, ◌≤◌, ◌+◌, ◌^◌}
use Rattle.std.specs.Prelude.{unsigned_abs}
use Rattle.cds_baseline.proofs.TangentLaws.{IsLastLeast}
use Rattle.cds_baseline.proofs.tangents.tangent.Given as goal

abbrev pub invariant-loop-j : goal.invariant-loop-j
invariant-loop-j g l =
    IsLastLeast l.trace l.v (l.j - 1) l.last l.least × (unsigned_abs l.least.rise ≤ 2 ^ 30) × (l.steps ≡ l.fn.steps + (l.j - l.v))
