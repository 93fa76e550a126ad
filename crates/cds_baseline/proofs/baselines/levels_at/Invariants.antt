use Rattle.std.proofs.Common.{◌≡◌, ◌+◌, map, take, vec_len}
use Rattle.cds_trace.specs.Signal.{sample_at}
use Rattle.cds_baseline.proofs.baselines.levels_at.Given as goal

abbrev pub invariant-loop-point : goal.invariant-loop-point
invariant-loop-point g l =
    (l.levels.items ≡ map (λ p. sample_at l.trace p) (take l.point-index l.points)) × (vec_len l.levels ≡ l.point-index) × (l.steps ≡ l.fn.steps + l.point-index)
