-- The numbers that a deviation reaches.
use Rattle.std.proofs.Common.{ℕ, ◌*◌, ◌≤◌, arith, inl, inr}
use Rattle.std.proofs.Math.Nat.{mul-le-mul}
use Rattle.std.proofs.lemmas.Bool.{cases_lt, le-leb, leb-true}
use Rattle.cds_base.specs.Search.{PassesFromBelow}
use Rattle.cds_suit.specs.declared.square.Square.{Square}
use Rattle.cds_suit.specs.Square.{reaches, IsSquare}

-- a smaller number has a smaller square times the level
square-le : (j k level : ℕ) → j ≤ k → j * j * level ≤ k * k * level
square-le j k level le =
    let square : j * j ≤ k * k = mul-le-mul {n₁ = j} {m₁ = j} {n₂ = k} {m₂ = k} le le in
    mul-le-mul {n₁ = j * j} {m₁ = level} {n₂ = k * k} {m₂ = level} square (omega arith)

-- what a deviation reaches it reaches from 0 on
pub PassesFromBelow-reaches : (s : Square) → PassesFromBelow (reaches s)
PassesFromBelow-reaches s = record {
  start = le-leb (0 * s.level) (s.spread * 100000000) (omega arith);
  below = λ j k le here.
      let reached = leb-true (k * k * s.level) (s.spread * 100000000) here in
      let less = square-le j k s.level le in
      le-leb (j * j * s.level) (s.spread * 100000000) (omega arith);
}

-- no deviation reaches more than the most
pub reached-most : (s : Square) → IsSquare s → (k : ℕ) → k * k * s.level ≤ s.spread * 100000000 → k ≤ 80000
reached-most s is k here =
    elim (cases_lt 80000 k) [
      | inl lt ↦
          let some = is.some in
          let small = is.small in
          let past = square-le 80001 k s.level (omega arith) in
          absurd (omega arith)
      | inr ge ↦ ge
    ]
