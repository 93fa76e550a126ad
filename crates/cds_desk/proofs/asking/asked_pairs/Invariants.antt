use Rattle.std.proofs.Common.{◌≡◌, ℕ, List, map, take}
use Rattle.std.specs.Prelude.{pos}
use Rattle.cds_desk.proofs.asking.asked_pairs.Given as goal

abbrev pub invariant-loop-place : goal.invariant-loop-place
invariant-loop-place l = l.asked.items ≡ map (λ (a : List ℕ × ℕ). (a.0, pos a.1)) (take l.place l.amounts)
